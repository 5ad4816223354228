use Rattle.std.proofs.Common.{◌∙◌, ap, sym}
use Rattle.a429_ldu.specs.Form.{is_free}
use Rattle.a429_side.proofs.NamedFacts.{sees_form, sees_free, sees_no_form}
use Rattle.a429_side.proofs.direction.direction_of.Goals as goal

pub named_direction-requires : goal.named_direction-requires
named_direction-requires c =
    ap (λ codes. is_free codes c.args.seen.bus c.args.seen.word) c.codes-codes.ensures.codes
    ∙ sees_no_form c.args.profile.now.codes c.args.seen (sym c.form.ensures.computed ∙ c.in-NoForm.is)

pub returns-in-Free : goal.returns-in-Free
returns-in-Free c = sym (sees_free c.args.profile.now.codes c.args.seen (sym c.form.ensures.computed ∙ c.in-Free.is))

pub returns-in-Form : goal.returns-in-Form
returns-in-Form c =
    sym (sees_form c.args.profile.now c.codes-codes.ensures.sound c.args.seen c.in-Form.field-0
    (sym c.form.ensures.computed ∙ c.in-Form.is))
