use Rattle.std.proofs.Common.{arith}
use Rattle.std.proofs.lemmas.Fmt.{length-decimal-le}
use Rattle.a429_view.proofs.trace.count.EntryCount.digits.Goals as goal

pub returns-clause-most : goal.returns-clause-most
returns-clause-most c = rw c.self.invariant.0 (length-decimal-le 20 c.self.inside.count (omega arith) (omega arith) (omega arith))
