use Rattle.a429_import.proofs.BitsFacts.{label_back}
use Rattle.a429_import.proofs.laws.a_label_is_read_back.Goals as goal

pub returns : goal.returns
returns c = label_back
