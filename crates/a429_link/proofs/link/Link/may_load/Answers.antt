use Rattle.std.proofs.Common.{◌↔◌, IsTrue, subst}
use Rattle.a429_ldu.specs.Ldu.{IsLdu}
use Rattle.a429_link.specs.Step.{Can}
use Rattle.a429_link.specs.Link.{LinkValue}
use Rattle.a429_link.specs.declared.step.Step.TheVariants as step
use Rattle.a429_link.proofs.link.Link.may_load.Goals as goal

pub returns : goal.returns
returns c = λ u.
    subst (λ (l : LinkValue). IsLdu l.profile u → (IsTrue c.may_load.result ↔ Can l.profile (step.Load u) l.state)) c.self.view_is
    (c.may_load.ensures u)
