use Rattle.std.proofs.Common.{◌≡◌, ◌∙◌, Option, IfSome, ap, not, subst, sym, true}
use Rattle.std.proofs.lemmas.Bool.{not-false}
use Rattle.a429_profile.specs.Profile.{Contents}
use Rattle.a429_ldu.specs.Ldu.{LduValue}
use Rattle.a429_merge.specs.declared.pieces.GroupPieces.{GroupPieces}
use Rattle.a429_merge.specs.Block.{MayBeUnitOf}
use Rattle.a429_search.specs.Recorded.{MayBeOf}
use Rattle.a429_search.proofs.groups.Group.with.Goals as goal
use Rattle.a429_search.proofs.groups.Group.with.Goals.{else-is_new, then-is_new}

pub returns-clause-covers : goal.returns-clause-covers
returns-clause-covers c =
    subst (λ (o : Option GroupPieces). IfSome o (λ g. (p : Contents) (u : LduValue) → MayBeUnitOf p c.args.self.now.pieces u
    → MayBeOf p c.args.attempt.now u → MayBeUnitOf p g u)) c.in-Some.is c.in_ok-pieces.ensures.covers c.args.profile.now

pub returns-in-Some-3-clause-covers : goal.returns-in-Some-3-clause-covers
returns-in-Some-3-clause-covers c =
    subst (λ (o : Option GroupPieces). IfSome o (λ g. (p : Contents) (u : LduValue) → MayBeUnitOf p c.args.self.now.pieces u
    → MayBeOf p c.args.attempt.now u → MayBeUnitOf p g u)) c.in-Some.is c.in_ok-pieces.ensures.covers c.args.profile.now

pub returns-then-contradicts-clause-none : goal.returns-then-contradicts-clause-none
returns-then-contradicts-clause-none c = λ _ _ u is may. c.contradicts.ensures.other (cc c.if-contradicts.true) c.args.profile.now u is may

pub returns-clause-only : goal.returns-clause-only
returns-clause-only c =
    subst (λ (o : Option GroupPieces). IfSome o (λ g. (p : Contents) (u : LduValue)
    → MayBeUnitOf p g u → MayBeUnitOf p c.args.self.now.pieces u × MayBeOf p c.args.attempt.now u)) c.in-Some.is
    (c.in_ok-pieces.ensures.only (c.contradicts.ensures.agree c.if-contradicts.false)) c.args.profile.now

pub returns-clause-unit : goal.returns-clause-unit
returns-clause-unit c = λ is.
    let p = c.args.profile.now in
    let old = c.args.self.now.pieces in
    let again = subst (λ (o : Option LduValue). IfSome o (λ u. u ≡ c.args.self.now.unit)) c.in-Some-2.is c.in_ok-unit.ensures.same in
    elim c.if-is_new.branch [
      | then-is_new w ↦ absurd (cc (w.says_more-is, w.if-is_new.true, c.if-not-says_more.true))
      | else-is_new w ↦
          let yes : c.is_in_some-is_new.result ≡ true = w.if-is_new.false in
          let equal : w.have_same_words.result ≡ true = not-false w.have_same_words.result (sym w.says_more-is ∙ c.if-not-says_more.true) in
          let same =
          subst (λ (o : Option GroupPieces).
          IfSome o (λ g. g.gfi ≡ old.gfi → g.end ≡ old.end → (q : Contents) (u : LduValue) → MayBeUnitOf q old u → MayBeUnitOf q g u))
          c.in-Some.is
          (c.in_ok-pieces.ensures.same (ap not yes)) in
          subst (MayBeUnitOf p c.in-Some.pieces) (sym again)
          (same (w.have_same_words.ensures.gfi (cc equal)) (w.have_same_words.ensures.end (cc equal)) p c.args.self.now.unit is)
    ]

pub returns-in-Some-3-clause-only : goal.returns-in-Some-3-clause-only
returns-in-Some-3-clause-only c =
    subst (λ (o : Option GroupPieces). IfSome o (λ g. (p : Contents) (u : LduValue)
    → MayBeUnitOf p g u → MayBeUnitOf p c.args.self.now.pieces u × MayBeOf p c.args.attempt.now u)) c.in-Some.is
    (c.in_ok-pieces.ensures.only (c.contradicts.ensures.agree c.if-contradicts.false)) c.args.profile.now
