use Rattle.std.proofs.Common.{◌≡◌, slice_range}
use Rattle.a429_explain.specs.Filled.{first_gfi}
use Rattle.a429_explain.proofs.filled.first_gfi.Given as goal

abbrev pub invariant-loop-at : goal.invariant-loop-at
invariant-loop-at l =
    first_gfi l.decoded.profile.codes (slice_range l.decoded.items l.fn.group.from l.fn.group.to)
    ≡ first_gfi l.decoded.profile.codes (slice_range l.decoded.items l.at l.fn.group.to)
