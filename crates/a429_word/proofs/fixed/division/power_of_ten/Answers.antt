use Rattle.a429_word.proofs.FixedZeros.{tens_shifted}
use Rattle.a429_word.proofs.fixed.division.power_of_ten.Goals as goal

pub returns : goal.returns
returns c = tens_shifted c.args.exponent c.power_of_five.result c.requires c.power_of_five.ensures
