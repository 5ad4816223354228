use Rattle.a429_record.proofs.DecimalPairs.{decimal_pairs-at}
use Rattle.a429_record.proofs.entry_text.two_digits.Goals as goal

pub returns : goal.returns
returns c = let pair = decimal_pairs-at c.args.number c.requires in rw (pair.0, pair.1)
