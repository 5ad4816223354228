use Rattle.std.proofs.Common.{sym, subst}
use Rattle.a429_link.specs.Carry.{IsAtWord, after_both, sends_word}
use Rattle.a429_link.specs.Link.{IsKept, LinkValue}
use Rattle.a429_link.specs.Losses.{StaysBounded}
use Rattle.a429_link.specs.Run.{IsRun}
use Rattle.a429_link.proofs.CarryFacts.{both_run, kept_both}
use Rattle.a429_link.proofs.link.Link.carry.Goals as goal
use Rattle.a429_link.proofs.link.Link.carry.Goals.{After-carry}

at_word : (a : After-carry) → IsAtWord a.self.inside.profile.now a.args.next a.self.inside.transfer
at_word a = subst (λ (l : LinkValue). IsAtWord l.profile a.args.next l.state) (sym a.self.view_is) a.requires

kept : (a : After-carry)
    → IsKept a.self.inside.profile.now (after_both a.self.inside.profile.now a.args.next.word a.self.inside.transfer)
    × StaysBounded a.self.inside.profile.now (sends_word a.args.next.word) a.self.inside.transfer
kept a = kept_both a.self.inside.profile.now a.args.next a.self.inside.transfer a.self.invariant (at_word a)

pub invariant_of-self : goal.invariant_of-self
invariant_of-self c =
    let a = (goal.at.invariant_of-self c).After-carry in
    subst (IsKept c.self.inside.profile.now) (sym c.carry.ensures) (kept a).0

pub returns-clause-allowed : goal.returns-clause-allowed
returns-clause-allowed c =
    let a = (goal.at.returns-clause-allowed c).After-carry in
    subst (λ (l : LinkValue). IsRun l.profile (sends_word c.args.next.word) l.state) c.self.view_is
    (both_run a.self.inside.profile.now a.args.next a.self.inside.transfer (at_word a))

pub returns-clause-bounds : goal.returns-clause-bounds
returns-clause-bounds c =
    let a = (goal.at.returns-clause-bounds c).After-carry in
    subst (λ (l : LinkValue). StaysBounded l.profile (sends_word c.args.next.word) l.state) c.self.view_is (kept a).1
