use Rattle.a429_import.proofs.BitsFacts.{read_back}
use Rattle.a429_import.proofs.laws.a_number_is_read_back.Goals as goal

pub returns : goal.returns
returns c = λ b n are straight h. read_back b n are straight h
