use Rattle.std.proofs.Common.{rules}
use Rattle.a429_link.proofs.sink.Sink.accept_unfiled.Goals as goal

pub returns-then-not-is_last : goal.returns-then-not-is_last
returns-then-not-is_last c = search rules
