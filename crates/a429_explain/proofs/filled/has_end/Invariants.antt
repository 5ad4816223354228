use Rattle.std.proofs.Common.{◌≡◌, slice_range}
use Rattle.a429_explain.specs.Filled.{has_end}
use Rattle.a429_explain.proofs.filled.has_end.Given as goal

abbrev pub invariant-loop-at : goal.invariant-loop-at
invariant-loop-at l =
    has_end l.decoded.profile.codes (slice_range l.decoded.items l.fn.group.from l.fn.group.to)
    ≡ has_end l.decoded.profile.codes (slice_range l.decoded.items l.at l.fn.group.to)
