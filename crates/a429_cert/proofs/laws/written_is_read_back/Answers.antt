use Rattle.a429_cert.proofs.ReadingFacts.{written-back}
use Rattle.a429_cert.proofs.laws.written_is_read_back.Goals as goal

pub returns : goal.returns
returns c = written-back
