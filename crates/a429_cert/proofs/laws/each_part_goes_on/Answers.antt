use Rattle.a429_cert.proofs.SeriesRun.{begun_none, one_part, one_run}
use Rattle.a429_cert.proofs.laws.each_part_goes_on.Goals as goal

pub returns : goal.returns
returns c = record { none = begun_none; more = one_part; run = one_run }
