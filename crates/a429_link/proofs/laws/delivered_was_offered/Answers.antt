use Rattle.a429_link.proofs.MessageRead.{is_read}
use Rattle.a429_link.proofs.RunCrossing.{delivered_subsequence}
use Rattle.a429_link.proofs.laws.delivered_was_offered.Goals as goal

pub returns : goal.returns
returns c = λ p r. delivered_subsequence p r.first r.steps (is_read p r.is_run.sound) r.is_run.byte r.is_run.run
