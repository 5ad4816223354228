use Rattle.std.proofs.Common.{rules}
use Rattle.a429_cert.proofs.shelf.MemoryShelfShelf.put.Goals as goal

pub returns-clause-ok : goal.returns-clause-ok
returns-clause-ok c = search rules
