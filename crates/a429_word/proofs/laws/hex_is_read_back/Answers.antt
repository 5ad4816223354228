use Rattle.a429_word.proofs.DigitsFacts.{hex_text-read}
use Rattle.a429_word.proofs.laws.hex_is_read_back.Goals as goal

pub returns : goal.returns
returns c = hex_text-read
