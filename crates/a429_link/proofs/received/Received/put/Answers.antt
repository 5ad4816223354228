use Rattle.std.proofs.Common.{rules}
use Rattle.a429_link.proofs.received.Received.put.Goals as goal

pub returns-then-is_final-clause-done : goal.returns-then-is_final-clause-done
returns-then-is_final-clause-done c = search rules
