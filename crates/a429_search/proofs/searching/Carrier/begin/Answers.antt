use Rattle.std.proofs.Common.{ℕ, ◌≡◌, IfSome, Option, false, is_some, subst, true}
use Rattle.a429_ldu.specs.Ldu.{LduValue}
use Rattle.a429_link.specs.declared.number.UnitNumber.{UnitNumber}
use Rattle.a429_search.specs.declared.groups.Group.{Group}
use Rattle.a429_search.specs.declared.standing.Standing.{Standing}
use Rattle.a429_merge.specs.Block.{MayBeUnitOf}
use Rattle.a429_search.specs.Recorded.{MayBeOf, number_of}
use Rattle.a429_search.specs.Standing.{CanComeTo, CanStand, IsInRange, IsNamed, IsRegular}
use Rattle.a429_search.proofs.SearchingFacts.{at_pushed, at_way}
use Rattle.a429_search.proofs.SoundFacts.{add_one, begun_from}
use Rattle.a429_search.proofs.searching.Carrier.begin.Goals as goal

pub returns-clause-at : goal.returns-clause-at
returns-clause-at c =
    λ start ways all. at_pushed c.args.next.now.items _ _ c.in_ok-push.ensures.items start
    (at_way c.args.ways.now.begin (c.in-Some.before, c.in-Some.standing) (λ b. b.1) start c.in-Some.is ways) all

pub returns-clause-only : goal.returns-clause-only
returns-clause-only c = λ make real.
    let p = c.args.profile.now in
    let first = p.codes.first_ldu in
    let h = c.args.hypothesis.now in
    let a = c.args.attempt.now in
    let regular = subst (λ (o : Option (ℕ × Standing)). IfSome o (λ b. IsRegular first b.1 true)) c.in-Some.is make.begin_regular in
    let comes =
    subst (λ (o : Option (ℕ × Standing)). IfSome o (λ b. (m : UnitNumber) (n : ℕ) → IsInRange first m n → CanStand first b.1 m n
    → IsNamed (number_of a.start) m × (is_some h.group ≡ true → CanComeTo first h.standing m n)
    × (is_some h.group ≡ false → CanStand first h.standing m n)))
    c.in-Some.is make.begin in
    let only =
    subst (λ (o : Option Group). IfSome o (λ g. (u : LduValue) → MayBeUnitOf p g.pieces u → MayBeOf p a u)) c.in-Some-begun.is
    c.in_ok-begun.ensures.only in
    let unit = subst (λ (o : Option Group). IfSome o (λ g. MayBeUnitOf p g.pieces g.unit)) c.in-Some-begun.is c.in_ok-begun.ensures.unit in
    add_one p h a c.args.next.now.items c.push.new.self.items _ c.in_ok-push.ensures.items
    (begun_from p h a c.in-Some.standing c.in-Some-begun.group real regular unit comes only)
