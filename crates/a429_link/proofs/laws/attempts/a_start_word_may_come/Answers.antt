use Rattle.a429_link.proofs.MessageRead.{is_read}
use Rattle.a429_link.proofs.NumbersCome.{numbers_come}
use Rattle.a429_link.proofs.laws.attempts.a_start_word_may_come.Goals as goal

pub returns : goal.returns
returns c = λ p items i is. numbers_come p (is_read p is) items i
