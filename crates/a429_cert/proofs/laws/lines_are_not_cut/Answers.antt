use Rattle.a429_cert.proofs.CutFacts.{read-short, says-uncut}
use Rattle.a429_cert.proofs.laws.lines_are_not_cut.Goals as goal

pub returns : goal.returns
returns c = record { read = read-short; line = says-uncut }
