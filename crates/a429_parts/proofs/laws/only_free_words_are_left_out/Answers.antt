use Rattle.a429_parts.proofs.KeptFacts.{only_free}
use Rattle.a429_parts.proofs.laws.only_free_words_are_left_out.Goals as goal

pub returns : goal.returns
returns c = λ p entries. only_free p.codes entries
