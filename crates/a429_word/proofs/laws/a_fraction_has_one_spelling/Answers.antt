use Rattle.a429_word.proofs.FixedOneSpelling.{one_spelling}
use Rattle.a429_word.proofs.laws.a_fraction_has_one_spelling.Goals as goal

pub returns : goal.returns
returns c = one_spelling
