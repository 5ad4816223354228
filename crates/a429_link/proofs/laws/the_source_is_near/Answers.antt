use Rattle.a429_link.proofs.MessageRead.{is_read}
use Rattle.a429_link.proofs.RunCrossing.{run_near}
use Rattle.a429_link.proofs.laws.the_source_is_near.Goals as goal

pub returns : goal.returns
returns c = λ p r. run_near p r.first r.steps (is_read p r.is_run.sound) r.is_run.byte r.is_run.run
