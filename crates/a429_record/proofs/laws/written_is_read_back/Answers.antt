use Rattle.a429_record.proofs.WrittenIsReadBack.{written-back}
use Rattle.a429_record.proofs.laws.written_is_read_back.Goals as goal

pub returns : goal.returns
returns c = written-back
