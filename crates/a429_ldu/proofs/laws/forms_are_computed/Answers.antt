use Rattle.a429_ldu.proofs.FormFree.{is_free-decides}
use Rattle.a429_ldu.proofs.FormFacts.{form_of-is}
use Rattle.a429_ldu.proofs.laws.forms_are_computed.Goals as goal

pub returns-clause-free : goal.returns-clause-free
returns-clause-free c = is_free-decides

pub returns-clause-form : goal.returns-clause-form
returns-clause-form c p b w x is = form_of-is p is b w x
