use Rattle.a429_link.proofs.Contradictions.{no_other, no_wrong}
use Rattle.a429_link.proofs.MessageRead.{is_read}
use Rattle.a429_link.proofs.laws.attempts.what_contradicts_is_impossible.Goals as goal

pub returns-clause-other : goal.returns-clause-other
returns-clause-other c = λ p items i is. no_other p is (is_read p is) items i

pub returns-clause-number : goal.returns-clause-number
returns-clause-number c = λ p items i is. no_wrong p (is_read p is) items i
