use Rattle.a429_ldu.proofs.FormPacked.{fields_masked}
use Rattle.a429_ldu.proofs.forms.fields.parts_of.Goals as goal

pub returns-clause-fields : goal.returns-clause-fields
returns-clause-fields c = fields_masked c.args.word c.to_u32-number.result c.to_u32-number.ensures
