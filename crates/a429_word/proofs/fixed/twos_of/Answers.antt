use Rattle.std.proofs.Common.{arith, inr}
use Rattle.a429_word.proofs.FixedZeros.{lowest_one, low_zeros}
use Rattle.a429_word.proofs.fixed.twos_of.Goals as goal

pub returns-then-zeros-from-clause-factors : goal.returns-then-zeros-from-clause-factors
returns-then-zeros-from-clause-factors c = (lowest_one c.args.number (omega arith) (omega arith)).0

pub returns-then-zeros-from-clause-all : goal.returns-then-zeros-from-clause-all
returns-then-zeros-from-clause-all c = inr (lowest_one c.args.number (omega arith) (omega arith)).1

pub returns-else-zeros-from-clause-factors : goal.returns-else-zeros-from-clause-factors
returns-else-zeros-from-clause-factors c = low_zeros c.args.number c.args.most (omega arith) (omega arith)
