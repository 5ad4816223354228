use Rattle.a429_word.proofs.WordBits.{number_of-lt, bit-number_of}
use Rattle.a429_word.proofs.laws.any_bits_make_a_word.Goals as goal

pub returns : goal.returns
returns c = record { within = number_of-lt; bits = bit-number_of }
