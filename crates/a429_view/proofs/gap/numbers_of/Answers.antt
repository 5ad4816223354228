use Rattle.a429_ldu.proofs.FormPacked.{fields_masked}
use Rattle.a429_view.proofs.gap.numbers_of.Goals as goal

pub returns : goal.returns
returns c = fields_masked c.args.word c.to_u32-number.result c.to_u32-number.ensures
