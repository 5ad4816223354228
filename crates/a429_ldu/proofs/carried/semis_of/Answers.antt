use Rattle.std.proofs.Common.{sym, ap, ◌∙◌, inl, inr}
use Rattle.a429_word.specs.declared.bus.Bus.TheVariants as bus
use Rattle.a429_ldu.specs.Carried.{semis_in}
use Rattle.a429_ldu.proofs.SightFacts.{form_of-sight}
use Rattle.a429_ldu.specs.Sight.{form_in}
use Rattle.a429_ldu.proofs.carried.semis_of.Goals as goal

pub returns-in-Form : goal.returns-in-Form
returns-in-Form c = c.semis_in.ensures ∙ ap (λ s. semis_in (form_in s)) (sym c.in-Form.is ∙ c.form.ensures.computed)
    ∙ ap semis_in (form_of-sight c.args.profile.now.codes bus.A c.args.word)

pub returns-in-Free : goal.returns-in-Free
returns-in-Free c = elim c.in-Free.is [
  | inl e ↦ ap (λ s. semis_in (form_in s)) (sym e ∙ c.form.ensures.computed)
      ∙ ap semis_in (form_of-sight c.args.profile.now.codes bus.A c.args.word)
  | inr e ↦ ap (λ s. semis_in (form_in s)) (sym e ∙ c.form.ensures.computed)
      ∙ ap semis_in (form_of-sight c.args.profile.now.codes bus.A c.args.word)
]
