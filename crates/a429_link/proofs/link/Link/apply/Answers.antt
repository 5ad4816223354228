use Rattle.std.proofs.Common.{IfErr, subst}
use Rattle.a429_link.specs.Step.{IsFault}
use Rattle.a429_link.specs.Link.{LinkValue}
use Rattle.a429_link.proofs.LinkKept.{kept_after, kept_bounded, kept_step, fault_after}
use Rattle.a429_link.proofs.link.Link.apply.Goals as goal

pub invariant_of-self : goal.invariant_of-self
invariant_of-self c =
    kept_after c.self.inside.profile.now c.args.step c.self.inside.transfer c.apply.new.self c.apply.result c.self.invariant c.apply.ensures

pub returns-clause-fault : goal.returns-clause-fault
returns-clause-fault c =
    subst (λ (l : LinkValue). IfErr c.apply.result (λ e. IsFault l.profile c.args.step l.state e)) c.self.view_is
    (fault_after c.self.inside.profile.now c.args.step c.self.inside.transfer c.apply.new.self c.apply.result c.self.invariant
    c.apply.ensures)

pub apply-requires-clause-bound : goal.apply-requires-clause-bound
apply-requires-clause-bound c = kept_bounded c.self.inside.profile.now c.self.inside.transfer c.self.invariant

pub apply-requires-clause-next : goal.apply-requires-clause-next
apply-requires-clause-next c =
    λ can.
    kept_bounded c.self.inside.profile.now _ (kept_step c.self.inside.profile.now c.args.step c.self.inside.transfer c.self.invariant can)

pub returns-clause-bounds : goal.returns-clause-bounds
returns-clause-bounds c = kept_bounded c.self.inside.profile.now c.apply.new.self (invariant_of-self c)
