use Rattle.a429_word.proofs.BcdDigits.{bcd-read, decimal_of-digits, decimal_of-within}
use Rattle.a429_word.proofs.laws.bcd_is_read_back.Goals as goal

pub returns : goal.returns
returns c = record { digits = decimal_of-digits; within = decimal_of-within; read = bcd-read }
