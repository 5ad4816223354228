use Rattle.a429_ldu.proofs.FormFacts.{one_form}
use Rattle.a429_ldu.proofs.laws.a_word_has_one_form.Goals as goal

pub returns : goal.returns
returns c p b w x y is hx hy = one_form p is b w x y hx hy
