use Rattle.std.proofs.Common.{ap, inl, inr, sym, ◌∙◌}
use Rattle.a429_ldu.proofs.SightFacts.{form_of-sight}
use Rattle.a429_ldu.specs.Sight.{form_in}
use Rattle.a429_link.proofs.reading.form_of.Goals as goal

pub returns-in-Form : goal.returns-in-Form
returns-in-Form c = ap form_in (sym c.in-Form.is ∙ c.form.ensures.computed) ∙ form_of-sight c.args.profile.now.codes c.args.bus c.args.word

pub returns-in-Free : goal.returns-in-Free
returns-in-Free c =
    elim c.in-Free.is [
      | inl e ↦ ap form_in (sym e ∙ c.form.ensures.computed) ∙ form_of-sight c.args.profile.now.codes c.args.bus c.args.word
      | inr e ↦ ap form_in (sym e ∙ c.form.ensures.computed) ∙ form_of-sight c.args.profile.now.codes c.args.bus c.args.word
    ]
