use Rattle.a429_link.proofs.MessageRead.{is_read}
use Rattle.a429_link.proofs.RunCrossing.{run_bounded}
use Rattle.a429_link.proofs.laws.every_state_is_bounded.Goals as goal

pub returns : goal.returns
returns c = λ p r. run_bounded p r.first r.steps (is_read p r.is_run.sound) r.is_run.byte r.is_run.run
