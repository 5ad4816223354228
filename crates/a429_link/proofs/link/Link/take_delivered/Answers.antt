use Rattle.std.proofs.Common.{sym, subst}
use Rattle.a429_link.specs.Link.{IsKept}
use Rattle.a429_link.proofs.LinkKept.{kept_bounded, kept_taken}
use Rattle.a429_link.proofs.link.Link.take_delivered.Goals as goal

pub invariant_of-self : goal.invariant_of-self
invariant_of-self c =
    subst (IsKept c.self.inside.profile.now) (sym c.take_delivered.ensures.rest)
    (kept_taken c.self.inside.profile.now c.self.inside.transfer c.self.invariant)

pub returns-clause-bounds : goal.returns-clause-bounds
returns-clause-bounds c = kept_bounded c.self.inside.profile.now c.take_delivered.new.self (invariant_of-self c)
