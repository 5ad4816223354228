use Rattle.std.proofs.Common.{◌≡◌, ◌≤◌, ◌-◌, ◌++◌, length, replicate}
use Rattle.a429_merge.specs.Fill.{filler, rest_filled}
use Rattle.a429_merge.proofs.fill.rest_filled.Given as goal

abbrev pub invariant-loop-filler : goal.invariant-loop-filler
invariant-loop-filler l = record {
  some : length l.rest.items ≤ l.fn.count - 1;
  rest : l.rest.items ++ replicate (l.fn.count - 1 - length l.rest.items) (filler l.profile.codes)
      ≡ rest_filled l.profile.codes l.fn.count l.recorded;
}

abbrev pub decreases-loop-filler : goal.decreases-loop-filler
decreases-loop-filler l = l.fn.count - length l.rest.items
