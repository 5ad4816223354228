use Rattle.std.proofs.Common.{◌≡◌, ◌++◌, ◌-◌, length}
use Rattle.a429_explain.specs.Filled.{fillers}
use Rattle.a429_explain.proofs.filled.fill.Given as goal

abbrev pub invariant-loop-at : goal.invariant-loop-at
invariant-loop-at l =
    l.words.items ++ fillers l.profile.codes l.is_odd (l.wanted - l.at) ≡ l.fn.words.items
    ++ fillers l.profile.codes l.is_odd (l.wanted - length l.fn.words.items)
