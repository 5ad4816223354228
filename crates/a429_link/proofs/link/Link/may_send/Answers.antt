use Rattle.std.proofs.Common.{◌↔◌, IsTrue, subst}
use Rattle.a429_link.specs.Step.{IsNamedStep}
use Rattle.a429_link.specs.Link.{LinkValue}
use Rattle.a429_link.specs.declared.step.Step.TheVariants as step
use Rattle.a429_link.proofs.LinkKept.{named_when_ready}
use Rattle.a429_link.proofs.link.Link.may_send.Goals as goal

pub returns : goal.returns
returns c = λ i.
    let ready = c.may_send.ensures c.self.inside.profile.now i in
    let named = named_when_ready c.self.inside.profile.now (step.Sent i) c.self.inside.transfer c.self.invariant in
    subst (λ (l : LinkValue). IsTrue c.may_send.result ↔ IsNamedStep l.profile (step.Sent i) l.state) c.self.view_is
    (λ t. named.0 (ready.0 t), λ n. ready.1 (named.1 n))
