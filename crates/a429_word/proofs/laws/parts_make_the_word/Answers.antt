use Rattle.a429_word.proofs.WordBits.{same_from_parts}
use Rattle.a429_word.proofs.laws.parts_make_the_word.Goals as goal

pub returns : goal.returns
returns c = same_from_parts
