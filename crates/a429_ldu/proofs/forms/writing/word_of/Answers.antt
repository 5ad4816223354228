use Rattle.std.proofs.Common.{ap, ◌∙◌}
use Rattle.a429_ldu.specs.Form.{address_of}
use Rattle.a429_ldu.proofs.FormFacts.{kind_small, upper_small, made_number}
use Rattle.a429_ldu.proofs.forms.writing.word_of.Goals as goal

pub word_with-requires-clause-kind : goal.word_with-requires-clause-kind
word_with-requires-clause-kind c =
    kind_small c.args.profile.now c.codes-codes.ensures.sound c.codes-codes.result.now c.codes-codes.ensures.codes c.args.form.now
    c.requires c.row.result.kind (ap (λ f. f.kind) c.row.ensures)

pub word_with-requires-clause-upper : goal.word_with-requires-clause-upper
word_with-requires-clause-upper c =
    upper_small c.args.profile.now c.codes-codes.ensures.sound c.codes-codes.result.now c.codes-codes.ensures.codes c.args.form.now
    c.requires c.row.result.upper (ap (λ f. f.upper) c.row.ensures)

pub returns-clause-number : goal.returns-clause-number
returns-clause-number c =
    let codes = c.codes-codes.result.now in
    made_number c.args.profile.now c.codes-codes.ensures.sound codes c.codes-codes.ensures.codes c.args.form.now c.requires
    c.word_with.result c.address.result _ c.row.ensures (c.address.ensures ∙ ap (address_of codes) c.bus.ensures)
    c.word_with.ensures.label c.word_with.ensures.fields c.word_with.ensures.parity c.word_with.ensures.word
