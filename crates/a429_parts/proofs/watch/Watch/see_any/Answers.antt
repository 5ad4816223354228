use Rattle.std.proofs.Common.{ap, sym, ◌∙◌}
use Rattle.a429_ldu.specs.declared.sight.Sight.TheVariants as sight
use Rattle.a429_parts.specs.Watch.{Watched}
use Rattle.a429_parts.proofs.WatchFacts.{form_is, sees_free, sees_refused}
use Rattle.a429_parts.proofs.watch.Watch.see_any.Goals as goal

pub see_form-requires-clause-form : goal.see_form-requires-clause-form
see_form-requires-clause-form c =
    form_is c.args.profile.now.codes c.args.seen.now.bus c.args.seen.now.word (sight.Form c.in-Form.form)
    (sym c.in-Form.is ∙ c.form.ensures.computed)

pub returns-in-Free-clause-sees : goal.returns-in-Free-clause-sees
returns-in-Free-clause-sees c = sees_free c.args.profile.now c.args.seen.now c.args.self.now (sym c.in-Free.is ∙ c.form.ensures.computed)

pub returns-in-NoForm-clause-sees : goal.returns-in-NoForm-clause-sees
returns-in-NoForm-clause-sees c =
    sees_refused c.args.profile.now c.args.seen.now c.args.self.now c.refuse.new.self (sym c.in-NoForm.is ∙ c.form.ensures.computed)
    (ap (λ (w : Watched). w.count) c.refuse.ensures) (ap (λ (w : Watched). w.observer) c.refuse.ensures)
    (ap (λ (w : Watched). w.doubt) c.refuse.ensures)
