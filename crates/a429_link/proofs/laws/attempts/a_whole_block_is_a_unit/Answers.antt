use Rattle.a429_link.proofs.MessageRead.{is_read}
use Rattle.a429_link.proofs.NumbersCome.{no_bad_block}
use Rattle.a429_link.proofs.WholeBlock.{whole_is_ldu}
use Rattle.a429_link.proofs.laws.attempts.a_whole_block_is_a_unit.Goals as goal

pub returns-clause-is : goal.returns-clause-is
returns-clause-is c = λ p items i u is. whole_is_ldu p (is_read p is) items i u

pub returns-clause-impossible : goal.returns-clause-impossible
returns-clause-impossible c = λ p items i is. no_bad_block p is (is_read p is) items i
