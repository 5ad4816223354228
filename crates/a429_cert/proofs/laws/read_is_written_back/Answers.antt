use Rattle.a429_cert.proofs.ReadingFacts.{read-back}
use Rattle.a429_cert.proofs.laws.read_is_written_back.Goals as goal

pub returns : goal.returns
returns c = read-back
