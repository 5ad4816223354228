use Rattle.std.proofs.Common.{◌≡◌, ◌++◌, ◌∷◌, [], List, None, IfSome, Option, ap, inl, inr, refl, subst, ◌∙◌}
use Rattle.a429_ldu.specs.Ldu.{LduValue}
use Rattle.a429_link.specs.Number.{next_number}
use Rattle.a429_search.specs.declared.groups.Group.{Group}
use Rattle.a429_search.specs.declared.searching.Hypothesis.{Hypothesis}
use Rattle.a429_merge.specs.Block.{MayBeUnitOf}
use Rattle.a429_search.specs.Recorded.{MayBeOf}
use Rattle.a429_search.proofs.HeardFacts.{are_heard, fits_group, one_group}
use Rattle.a429_search.proofs.SearchingFacts.{heard_goes_on}
use Rattle.a429_search.proofs.searching.Carrier.heard.Goals as goal

pub returns-clause-covers : goal.returns-clause-covers
returns-clause-covers c =
    let p = c.args.profile.now in
    let a = c.args.attempt.now in
    let start = c.in-Some-Some.start in
    let end = c.in-Some-Some.end in
    let one = c.merged-one.result in
    let heard : Hypothesis = record { standing = c.heard.result; group = None; before = 0; closed = c.in_ok-closed.closed } in
    let begun =
    subst (λ (o : Option Group). IfSome o (λ g. (u : LduValue) → MayBeOf p a u → MayBeUnitOf p g.pieces u)) c.in-Some.is
    c.in_ok-begun.ensures.covers in
    let first : c.push.new.self.items ≡ one ∷ [] =
    c.in_ok-push.ensures.items ∙ ap (λ (l : List Hypothesis). l ++ one ∷ []) c.new-hypotheses.ensures.items in
    let both : c.push-2.new.self.items ≡ one ∷ (heard ∷ []) =
    c.in_ok-push-2.ensures.items ∙ ap (λ (l : List Hypothesis). l ++ heard ∷ []) first in
    heard_goes_on p c.args.next.now c.push-2.new.self.items c.args.is_whole a one heard start end c.next-known.result c.in-Some-Some.is-0
    c.in-Some-Some.is-1 c.requires.at
    (record {
      at = c.merged-one.ensures.at;
      group = λ u may. fits_group p one.group c.in-Some.group u c.merged-one.ensures.group (begun u may);
      few = c.merged-one.ensures.few;
      none = c.merged-one.ensures.none;
    })
    c.heard.ensures refl (c.next-known.ensures.number ∙ ap (next_number p.codes start.number) c.is_final.ensures) both

pub returns-clause-only : goal.returns-clause-only
returns-clause-only c = λ whole some hyps carried.
    let p = c.args.profile.now in
    let a = c.args.attempt.now in
    let start = c.in-Some-Some.start in
    let end = c.in-Some-Some.end in
    let one = c.merged-one.result in
    let heard : Hypothesis = record { standing = c.heard.result; group = None; before = 0; closed = c.in_ok-closed.closed } in
    let only =
    subst (λ (o : Option Group). IfSome o (λ g. (u : LduValue) → MayBeUnitOf p g.pieces u → MayBeOf p a u)) c.in-Some.is
    c.in_ok-begun.ensures.only in
    let unit = subst (λ (o : Option Group). IfSome o (λ g. MayBeUnitOf p g.pieces g.unit)) c.in-Some.is c.in_ok-begun.ensures.unit in
    let first : c.push.new.self.items ≡ one ∷ [] =
    c.in_ok-push.ensures.items ∙ ap (λ (l : List Hypothesis). l ++ one ∷ []) c.new-hypotheses.ensures.items in
    let both : c.push-2.new.self.items ≡ one ∷ (heard ∷ []) =
    c.in_ok-push-2.ensures.items ∙ ap (λ (l : List Hypothesis). l ++ heard ∷ []) first in
    elim (c.merged-one.ensures.one_of whole) [
      | inl none ↦ absurd (some none)
      | inr (k, h, is, gave) ↦
          let g = one_group p one.group c.in-Some.group c.merged-one.ensures.group in
          are_heard p a c.args.next.now hyps carried start end c.in-Some-Some.is-0 c.in-Some-Some.is-1
          c.requires.whole.words c.requires.at k h is one g.0 g.1
          c.merged-one.ensures.at gave (λ u may. only u (g.2 u may)) (g.3 unit) heard c.next-known.result refl c.heard.ensures
          (c.next-known.ensures.number ∙ ap (next_number p.codes start.number) c.is_final.ensures) c.push-2.new.self.items both
    ]
