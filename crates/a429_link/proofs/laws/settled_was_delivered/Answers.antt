use Rattle.a429_link.proofs.MessageRead.{is_read}
use Rattle.a429_link.proofs.RunCrossing.{settled_subsequence}
use Rattle.a429_link.proofs.laws.settled_was_delivered.Goals as goal

pub returns : goal.returns
returns c = λ p r. settled_subsequence p r.first r.steps (is_read p r.is_run.sound) r.is_run.byte r.is_run.run
