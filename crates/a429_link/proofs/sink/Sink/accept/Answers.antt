use Rattle.std.proofs.Common.{rules}
use Rattle.a429_link.proofs.sink.Sink.accept.Goals as goal

pub returns-clause-done : goal.returns-clause-done
returns-clause-done c = search rules
