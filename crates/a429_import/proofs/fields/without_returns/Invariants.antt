use Rattle.std.proofs.Common.{◌≡◌, ◌≤◌, take, length}
use Rattle.a429_import.specs.Fields.{is_return, without_last}
use Rattle.a429_import.proofs.fields.without_returns.Given as goal

abbrev pub invariant-returns : goal.invariant-returns
invariant-returns l = record {
  same : without_last is_return (take l.end l.line) ≡ without_last is_return l.line;
  inside : l.end ≤ length l.line;
}

abbrev pub decreases-returns : goal.decreases-returns
decreases-returns l = l.end
