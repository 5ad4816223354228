use Rattle.a429_link.proofs.MessageRead.{is_read}
use Rattle.a429_link.proofs.NumberKept.{goes_forward}
use Rattle.a429_link.proofs.laws.attempts.numbers_go_forward.Goals as goal

pub returns : goal.returns
returns c = λ p n m before group is. goes_forward p (is_read p is) n m before group
