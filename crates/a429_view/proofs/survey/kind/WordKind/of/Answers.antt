use Rattle.std.proofs.Common.{◌≡◌, ◌∙◌, sym, ap, Some, None}
use Rattle.a429_ldu.specs.Across.{form_across}
use Rattle.a429_ldu.specs.Form.{form_of}
use Rattle.a429_ldu.specs.Freedom.{freedom_of}
use Rattle.a429_ldu.specs.Sight.{form_in}
use Rattle.a429_ldu.proofs.FreedomFacts.{some_where_free}
use Rattle.a429_ldu.proofs.SightFacts.{form_of-sight}
use Rattle.a429_view.specs.Survey.{kind_in}
use Rattle.a429_view.proofs.SurveyFacts.{no_reason}
use Rattle.a429_view.proofs.survey.kind.WordKind.of.Goals as goal

pub returns-in-Form : goal.returns-in-Form
returns-in-Form c =
    let codes = c.args.profile.now.codes in
    let e = c.args.entry.now in
    let form : form_of codes e.bus e.word ≡ Some c.in-Form.form =
    sym (form_of-sight codes e.bus e.word) ∙ ap form_in (sym c.form.ensures.computed ∙ c.in-Form.is) in
    let none : freedom_of codes e.bus e.word ≡ None =
    no_reason _ (λ some. absurd (cc (c.in-Form.is, c.form.ensures.free.1 ((some_where_free codes e.bus e.word).0 some)))) in
    rw (form, none) (c.form_kind.ensures (form_across codes e.bus e.word))

pub returns-in-NoForm : goal.returns-in-NoForm
returns-in-NoForm c =
    let codes = c.args.profile.now.codes in
    let e = c.args.entry.now in
    let form : form_of codes e.bus e.word ≡ None =
    sym (form_of-sight codes e.bus e.word) ∙ ap form_in (sym c.form.ensures.computed ∙ c.in-NoForm.is) in
    let none : freedom_of codes e.bus e.word ≡ None =
    no_reason _ (λ some. absurd (cc (c.in-NoForm.is, c.form.ensures.free.1 ((some_where_free codes e.bus e.word).0 some)))) in
    rw (form, none) (c.other_kind.ensures ∙ ap (kind_in None None) c.form_across.ensures)

pub returns-in-None : goal.returns-in-None
returns-in-None c = absurd (c.why_free.ensures.free.1 (c.form.ensures.free.0 c.in-Free.is) c.in-None.is)
