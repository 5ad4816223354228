use Rattle.std.proofs.Common.{rules}
use Rattle.a429_cert.proofs.writing.put_moved.Goals as goal

pub returns-clause-appends : goal.returns-clause-appends
returns-clause-appends c = search rules
