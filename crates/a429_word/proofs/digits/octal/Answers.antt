use Rattle.a429_word.proofs.DigitsFacts.{octal_text-is}
use Rattle.a429_word.proofs.digits.octal.Goals as goal

pub returns : goal.returns
returns c = octal_text-is c.args.label
