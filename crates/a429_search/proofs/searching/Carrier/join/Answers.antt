use Rattle.std.proofs.Common.{ℕ, IfSome, Option, subst, true}
use Rattle.a429_ldu.specs.Ldu.{LduValue}
use Rattle.a429_link.specs.declared.number.UnitNumber.{UnitNumber}
use Rattle.a429_search.specs.declared.groups.Group.{Group}
use Rattle.a429_search.specs.declared.standing.Standing.{Standing}
use Rattle.a429_merge.specs.Block.{MayBeUnitOf}
use Rattle.a429_search.specs.Frontier.{FitsGroup}
use Rattle.a429_search.specs.Recorded.{MayBeOf, number_of}
use Rattle.a429_search.specs.Standing.{CanStand, IsInRange, IsNamed, IsRegular}
use Rattle.a429_search.proofs.SearchingFacts.{at_pushed, at_way}
use Rattle.a429_search.proofs.SoundFacts.{add_one, joined_from}
use Rattle.a429_search.proofs.searching.Carrier.join.Goals as goal

pub returns-clause-at : goal.returns-clause-at
returns-clause-at c =
    λ start ways all. at_pushed c.args.next.now.items _ _ c.in_ok-push.ensures.items start
    (at_way c.args.ways.now.join c.in-Some.standing (λ s. s) start c.in-Some.is ways) all

pub returns-clause-only : goal.returns-clause-only
returns-clause-only c = λ make real.
    let p = c.args.profile.now in
    let first = p.codes.first_ldu in
    let h = c.args.hypothesis.now in
    let a = c.args.attempt.now in
    let regular = subst (λ (o : Option Standing). IfSome o (λ j. IsRegular first j true)) c.in-Some.is make.join_regular in
    let comes =
    subst (λ (o : Option Standing). IfSome o (λ j. (m : UnitNumber) (n : ℕ)
    → IsInRange first m n → CanStand first j m n → IsNamed (number_of a.start) m × CanStand first h.standing m n)) c.in-Some.is
    make.join in
    let only =
    subst (λ (o : Option Group). IfSome o (λ g. (u : LduValue) → MayBeUnitOf p g.pieces u → FitsGroup p h.group u × MayBeOf p a u))
    c.in-Some-2.is c.in_ok-group.ensures.only in
    let unit =
    subst (λ (o : Option Group). IfSome o (λ g. MayBeUnitOf p g.pieces g.unit)) c.in-Some-2.is (c.in_ok-group.ensures.unit real.unit) in
    add_one p h a c.args.next.now.items c.push.new.self.items _ c.in_ok-push.ensures.items
    (joined_from p h a c.in-Some.standing c.in-Some-2.group real regular unit comes only)
