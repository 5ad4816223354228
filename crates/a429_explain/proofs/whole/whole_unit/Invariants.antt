use Rattle.std.proofs.Common.{◌≡◌, slice_range}
use Rattle.a429_explain.specs.Whole.{nothing_yet, first_whole}
use Rattle.a429_explain.proofs.whole.whole_unit.Given as goal

abbrev pub invariant-loop-at : goal.invariant-loop-at
invariant-loop-at l =
    first_whole l.decoded.profile l.request.count (slice_range l.decoded.items l.fn.request.group.from l.fn.request.group.to) nothing_yet
    ≡ first_whole l.decoded.profile l.request.count (slice_range l.decoded.items l.at l.fn.request.group.to) l.attempt
