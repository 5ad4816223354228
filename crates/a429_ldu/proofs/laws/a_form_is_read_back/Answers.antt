use Rattle.a429_ldu.specs.Form.{bus_of, word_number}
use Rattle.a429_ldu.proofs.FormFacts.{word_number-is, form_is_not_free}
use Rattle.a429_ldu.proofs.SightFacts.{sees}
use Rattle.a429_ldu.proofs.laws.a_form_is_read_back.Goals as goal

pub returns-clause-seen : goal.returns-clause-seen
returns-clause-seen c p x is h = (sees p is (bus_of x) (word_number p.codes x)).only x (word_number-is p is x h)

pub returns-clause-form : goal.returns-clause-form
returns-clause-form c p x is h = word_number-is p is x h

pub returns-clause-kept : goal.returns-clause-kept
returns-clause-kept c p x is h = form_is_not_free p is (bus_of x) (word_number p.codes x) x (word_number-is p is x h)
