use Rattle.std.proofs.Common.{◌≡◌, ◌≤◌, Some, slice_range}
use Rattle.a429_ldu.specs.Ldu.{count_of}
use Rattle.a429_explain.specs.Matching.{passed_after}
use Rattle.a429_explain.proofs.matching.first_unmatched.Given as goal

abbrev pub invariant-loop-at : goal.invariant-loop-at
invariant-loop-at l = record {
  few : l.passed ≤ count_of l.unit;
  passed : passed_after l.decoded.profile.codes l.unit l.place (slice_range l.decoded.items l.fn.group.from l.at) (Some 0) ≡ Some l.passed;
}
