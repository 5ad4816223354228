use Rattle.a429_link.proofs.AllData.{no_half}
use Rattle.a429_link.proofs.MessageRead.{is_read}
use Rattle.a429_link.proofs.laws.attempts.all_data_words_carry_bytes.Goals as goal

pub returns : goal.returns
returns c = λ p items i is. no_half p is (is_read p is) items i
