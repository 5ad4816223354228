use Rattle.std.proofs.Common.{◌≡◌, ◌+◌, drop}
use Rattle.a429_explain.specs.Groups.{words_in, group_length}
use Rattle.a429_explain.proofs.groups.group_at.Given as goal

abbrev pub invariant-loop-to : goal.invariant-loop-to
invariant-loop-to l = l.from + group_length (drop l.from l.roles) ≡ l.to + words_in l.grouping (drop l.to l.roles)
