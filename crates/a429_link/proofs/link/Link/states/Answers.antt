use Rattle.std.proofs.Common.{subst, arith, rules}
use Rattle.a429_link.specs.Link.{LinkValue}
use Rattle.a429_link.specs.Run.{IsBounded}
use Rattle.a429_link.proofs.LinkKept.{kept_bounded}
use Rattle.a429_link.proofs.link.Link.states.Goals as goal

pub sink-requires : goal.sink-requires
sink-requires c = omega (arith, (kept_bounded c.self.inside.profile.now c.self.inside.transfer c.self.invariant).words)

pub overflow_cast-result : goal.overflow_cast-result
overflow_cast-result c = omega (arith, (kept_bounded c.self.inside.profile.now c.self.inside.transfer c.self.invariant).words)

pub overflow_cast-result-2 : goal.overflow_cast-result-2
overflow_cast-result-2 c = omega (arith, (kept_bounded c.self.inside.profile.now c.self.inside.transfer c.self.invariant).answers)

pub returns-clause-bounds : goal.returns-clause-bounds
returns-clause-bounds c =
    subst (λ (l : LinkValue). IsBounded l.state) c.self.view_is
    (kept_bounded c.self.inside.profile.now c.self.inside.transfer c.self.invariant)

pub returns-clause-states : goal.returns-clause-states
returns-clause-states c = search rules
