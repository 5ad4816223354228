use Rattle.a429_record.proofs.WholeRecordings.{binary-whole, whole-binary}
use Rattle.a429_record.proofs.laws.whole_binaries.Goals as goal

pub returns : goal.returns
returns c = record { there = binary-whole; only = whole-binary }
