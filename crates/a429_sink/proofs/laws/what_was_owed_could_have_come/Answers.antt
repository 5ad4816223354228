use Rattle.a429_link.proofs.MessageRead.{is_read}
use Rattle.a429_sink.proofs.OwedFacts.{could_have_come}
use Rattle.a429_sink.proofs.laws.what_was_owed_could_have_come.Goals as goal

pub returns : goal.returns
returns c = λ p items i j word is. could_have_come p (is_read p is) items i j word
