use Rattle.a429_record.proofs.PackedIsReadBack.{packed-back}
use Rattle.a429_record.proofs.laws.packed_is_read_back.Goals as goal

pub returns : goal.returns
returns c = packed-back
