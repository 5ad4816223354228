use Rattle.std.proofs.Common.{◌≡◌, slice_range}
use Rattle.a429_explain.specs.Groups.{first_started}
use Rattle.a429_explain.proofs.groups.group_start.Given as goal

abbrev pub invariant-loop-at : goal.invariant-loop-at
invariant-loop-at l =
    first_started (slice_range l.roles l.fn.group.from l.fn.group.to) ≡ first_started (slice_range l.roles l.at l.fn.group.to)
