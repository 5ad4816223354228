use Rattle.std.proofs.Common.{◌≡◌, ◌∙◌, ℕ, sym, ap, subst}
use Rattle.a429_link.specs.Link.{IsKept, LinkValue}
use Rattle.a429_link.specs.Losses.{losses, StaysBounded}
use Rattle.a429_link.specs.Run.{IsRun, end_of}
use Rattle.a429_link.specs.State.{State}
use Rattle.a429_link.proofs.LossesFacts.{kept_run, rest_lost}
use Rattle.a429_link.proofs.link.Link.lose_rest.Goals as goal
use Rattle.a429_link.proofs.link.Link.lose_rest.Goals.{After-lose_rest}

runs : (a : After-lose_rest) → IsRun a.self.inside.profile.now (losses a.lose_rest.result) a.self.inside.transfer
runs a =
    let p = a.self.inside.profile.now in
    let s = a.self.inside.transfer in
    subst (λ (n : ℕ). IsRun p (losses n) s) (sym a.lose_rest.ensures.count) (rest_lost p s).0

ends : (a : After-lose_rest) → a.lose_rest.new.self ≡ end_of a.self.inside.profile.now (losses a.lose_rest.result) a.self.inside.transfer
ends a =
    let p = a.self.inside.profile.now in
    let s = a.self.inside.transfer in
    a.lose_rest.ensures.lost ∙ sym (rest_lost p s).1 ∙ ap (λ (n : ℕ). end_of p (losses n) s) (sym a.lose_rest.ensures.count)

kept : (a : After-lose_rest)
    → IsKept a.self.inside.profile.now (end_of a.self.inside.profile.now (losses a.lose_rest.result) a.self.inside.transfer)
    × StaysBounded a.self.inside.profile.now (losses a.lose_rest.result) a.self.inside.transfer
kept a = kept_run a.self.inside.profile.now (losses a.lose_rest.result) a.self.inside.transfer a.self.invariant (runs a)

pub invariant_of-self : goal.invariant_of-self
invariant_of-self c =
    let a = (goal.at.invariant_of-self c).After-lose_rest in
    subst (IsKept c.self.inside.profile.now) (sym (ends a)) (kept a).0

pub returns-clause-allowed : goal.returns-clause-allowed
returns-clause-allowed c =
    subst (λ (l : LinkValue). IsRun l.profile (losses c.lose_rest.result) l.state) c.self.view_is
    (runs (goal.at.returns-clause-allowed c).After-lose_rest)

pub returns-clause-done : goal.returns-clause-done
returns-clause-done c =
    let a = (goal.at.returns-clause-done c).After-lose_rest in
    let made : LinkValue = record { profile = c.self.inside.profile.now; state = c.lose_rest.new.self } in
    subst (λ (l : LinkValue). made ≡ record { profile = l.profile; state = end_of l.profile (losses c.lose_rest.result) l.state })
    c.self.view_is
    (ap (λ (s : State). record made { state = s }) (ends a))

pub returns-clause-bounds : goal.returns-clause-bounds
returns-clause-bounds c =
    subst (λ (l : LinkValue). StaysBounded l.profile (losses c.lose_rest.result) l.state) c.self.view_is
    (kept (goal.at.returns-clause-bounds c).After-lose_rest).1
