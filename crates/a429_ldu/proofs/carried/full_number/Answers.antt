use Rattle.a429_ldu.proofs.FormPacked.{fields_joined}
use Rattle.a429_ldu.proofs.carried.full_number.Goals as goal

pub returns-then-is_addressed-clause-fields : goal.returns-then-is_addressed-clause-fields
returns-then-is_addressed-clause-fields c =
    fields_joined c.args.word c.to_u32.result c.args.codes.now.full _ c.to_u32.ensures c.parts_of.ensures.fields c.if-parts_of-codes.true
