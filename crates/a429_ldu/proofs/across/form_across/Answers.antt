use Rattle.std.proofs.Common.{sym, ap, ◌∙◌}
use Rattle.a429_word.specs.declared.bus.Bus.{Bus}
use Rattle.a429_word.proofs.Outcomes.{not_some}
use Rattle.a429_profile.specs.declared.codes.Codes.{Codes}
use Rattle.a429_ldu.specs.Across.{other_line, with_destination}
use Rattle.a429_ldu.specs.Form.{fields_in, form_on}
use Rattle.a429_ldu.proofs.AcrossFacts.{some_across}
use Rattle.a429_ldu.proofs.across.form_across.Goals as goal

pub returns : goal.returns
returns c =
    let parts = c.parts_of-parts in
    let codes = c.codes.result.now in
    let none = not_some c.why_free.result (sym c.is_some.ensures ∙ c.if-is_some.false) in
    some_across c.args.profile.now.codes c.args.bus c.args.word (fields_in parts.result) c.form_on.result parts.ensures.word
    (λ free. c.why_free.ensures.free.1 free none) parts.ensures.fields
    (c.form_on.ensures
    ∙ ap (λ (b : Bus). form_on (with_destination parts.result.middle codes) b (fields_in parts.result)) c.other_line.ensures
    ∙ ap (λ (d : Codes). form_on (with_destination parts.result.middle d) (other_line c.args.bus) (fields_in parts.result))
    c.codes.ensures.codes)
