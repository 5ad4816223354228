use Rattle.a429_ldu.proofs.FormFacts.{one_word}
use Rattle.a429_ldu.proofs.laws.a_form_has_one_word.Goals as goal

pub returns : goal.returns
returns c = one_word
