use Rattle.a429_word.proofs.WordBits.{number_of-bit}
use Rattle.a429_word.proofs.laws.number_is_the_sum_of_its_bits.Goals as goal

pub returns : goal.returns
returns c = number_of-bit
