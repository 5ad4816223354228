use Rattle.std.proofs.Common.{refl, arith}
use Rattle.a429_ldu.proofs.FormPacked.{field_put, field_room, fields_put}
use Rattle.a429_ldu.proofs.forms.fields.word_with.Goals as goal

pub with_parity-requires-clause-field : goal.with_parity-requires-clause-field
with_parity-requires-clause-field c =
    let p = c.args.parts in
    rw (field_put p.kind p.upper p.middle p.lower c.from.result c.from-2.result c.from-3.result c.from-4.result c.requires.upper
    (omega arith) (omega arith) c.from.ensures c.from-2.ensures c.from-3.ensures c.from-4.ensures)
    (field_room p.kind p.upper p.middle p.lower c.requires.upper (omega arith) (omega arith))

pub returns-clause-fields : goal.returns-clause-fields
returns-clause-fields c =
    let p = c.args.parts in
    fields_put c.with_parity.result _ p.kind p.upper p.middle p.lower _ _ c.requires.kind c.requires.upper (omega arith) (omega arith)
    (field_put p.kind p.upper p.middle p.lower c.from.result c.from-2.result c.from-3.result c.from-4.result c.requires.upper (omega arith)
    (omega arith) c.from.ensures c.from-2.ensures c.from-3.ensures c.from-4.ensures)
    refl refl c.with_parity.ensures.sdi c.with_parity.ensures.field c.with_parity.ensures.ssm
