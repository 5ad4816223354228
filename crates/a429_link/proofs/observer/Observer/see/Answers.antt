use Rattle.std.proofs.Common.{sym, refl, ◌∙◌}
use Rattle.a429_link.proofs.ObserverSight.{allows_sight, sees_sight}
use Rattle.a429_link.proofs.observer.Observer.see.Goals as goal

pub returns-in-NoForm-clause-allowed : goal.returns-in-NoForm-clause-allowed
returns-in-NoForm-clause-allowed c =
    let by = allows_sight c.args.profile.now c.args.self.now c.args.seen _ (sym c.in-NoForm.is ∙ c.form-sight.ensures.computed) in
    (λ f. cc f, λ a. absurd (by.0 a))

pub returns-in-NoForm-clause-taken : goal.returns-in-NoForm-clause-taken
returns-in-NoForm-clause-taken c = tt

pub returns-then-see_form-clause-allowed : goal.returns-then-see_form-clause-allowed
returns-then-see_form-clause-allowed c =
    let by = allows_sight c.args.profile.now c.args.self.now c.args.seen _ (sym c.in-Form.is ∙ c.form-sight.ensures.computed) in
    (λ e. by.1 (c.see_form.ensures.allowed.0 c.if-see_form.true), λ a. refl)

pub returns-then-see_form-clause-taken : goal.returns-then-see_form-clause-taken
returns-then-see_form-clause-taken c = c.see_form.ensures.taken c.if-see_form.true
    ∙ sym (sees_sight c.args.profile.now c.args.self.now c.args.seen _ (sym c.in-Form.is ∙ c.form-sight.ensures.computed))

pub returns-else-see_form-clause-allowed : goal.returns-else-see_form-clause-allowed
returns-else-see_form-clause-allowed c =
    let by = allows_sight c.args.profile.now c.args.self.now c.args.seen _ (sym c.in-Form.is ∙ c.form-sight.ensures.computed) in
    (λ f. cc f, λ a. sym c.if-see_form.false ∙ c.see_form.ensures.allowed.1 (by.0 a))
