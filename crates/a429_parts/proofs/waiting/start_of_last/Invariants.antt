use Rattle.std.proofs.Common.{◌≡◌, ◌-◌, length}
use Rattle.a429_parts.specs.Waiting.{entries_of, size_of}
use Rattle.a429_parts.proofs.waiting.start_of_last.Given as goal

abbrev pub invariant-loop : goal.invariant-loop
invariant-loop l = l.start ≡ size_of (length (entries_of l.lines) - l.counter) (entries_of l.lines)
