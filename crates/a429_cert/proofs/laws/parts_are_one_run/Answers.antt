use Rattle.a429_cert.proofs.SeriesRun.{parts_one_run}
use Rattle.a429_cert.proofs.laws.parts_are_one_run.Goals as goal

pub returns : goal.returns
returns c = parts_one_run
