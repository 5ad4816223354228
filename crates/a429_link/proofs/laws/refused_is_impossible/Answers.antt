use Rattle.a429_link.proofs.MessageRead.{is_read}
use Rattle.a429_link.proofs.ObserverRefuses.{impossible}
use Rattle.a429_link.proofs.laws.refused_is_impossible.Goals as goal

pub returns : goal.returns
returns c = λ p items i is. impossible p (is_read p is) items i
