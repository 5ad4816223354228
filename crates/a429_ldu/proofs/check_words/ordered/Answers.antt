use Rattle.a429_ldu.proofs.CheckWordFacts.{reversed-byte}
use Rattle.a429_ldu.proofs.check_words.ordered.Goals as goal

pub returns-else-low_first : goal.returns-else-low_first
returns-else-low_first c = reversed-byte c.args.low_first c.args.byte c.reverse_bits.result c.if-low_first.false c.reverse_bits.ensures
