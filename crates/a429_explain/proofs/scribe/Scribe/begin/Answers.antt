use Rattle.std.proofs.Common.{◌∷◌, [], ◌∙◌, sym, ap, subst, Option}
use Rattle.a429_link.specs.declared.step.Step.TheVariants as step
use Rattle.a429_link.specs.Link.{LinkValue}
use Rattle.a429_link.specs.Step.{Can}
use Rattle.a429_explain.specs.declared.plan.Plan.{Plan}
use Rattle.a429_explain.specs.Scribe.{link_after, CanMake, begin_steps}
use Rattle.a429_explain.proofs.ScribeFacts.{plan_can, plan_made, on_ok}
use Rattle.a429_explain.proofs.scribe.Scribe.begin.Goals as goal

pub returns-in-Ok-clause-lossless : goal.returns-in-Ok-clause-lossless
returns-in-Ok-clause-lossless c = λ can.
    let k =
    plan_can c.in-Some.field-0 c.args.self.now.link
    (subst (λ (o : Option Plan). CanMake (begin_steps o) c.args.self.now.link) c.in-Some.is can) in
    c.load.ensures.lossless (subst (λ (l : LinkValue). Can l.profile (step.Load c.in-Some.field-0.unit) l.state)
    (sym c.in-Ok.ensures.reached) k.1)

pub returns-in-Ok-clause-reached : goal.returns-in-Ok-clause-reached
returns-in-Ok-clause-reached c =
    let made = plan_made c.in-Some.field-0 c.args.self.now.link
    ∙ ap (λ (o : Option Plan). link_after (begin_steps o) c.args.self.now.link) (sym c.in-Some.is) in
    on_ok c.load.result c.load.ensures.reached
    (λ e. e ∙ ap (link_after (step.Load c.in-Some.field-0.unit ∷ [])) c.in-Ok.ensures.reached ∙ made)

pub returns-in-Err-clause-lossless : goal.returns-in-Err-clause-lossless
returns-in-Err-clause-lossless c = λ can.
    let k =
    plan_can c.in-Some.field-0 c.args.self.now.link
    (subst (λ (o : Option Plan). CanMake (begin_steps o) c.args.self.now.link) c.in-Some.is can) in
    c.in-Err.ensures.lossless k.0
