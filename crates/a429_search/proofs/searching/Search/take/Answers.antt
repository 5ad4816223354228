use Rattle.std.proofs.Common.{◌≡◌, ◌∙◌, Bool, IfSome, List, [], None, Option, ap, false, inl, inr, is_some, not, refl, subst, sym, true}
use Rattle.a429_word.proofs.Outcomes.{not_some}
use Rattle.a429_search.specs.declared.searching.Hypothesis.{Hypothesis}
use Rattle.a429_search.specs.Frontier.{AreCarried, AreHeard, AreReal, CarriesOn, GoOnFrom, leaves_nothing_out}
use Rattle.a429_search.proofs.SearchingFacts.{goes_on, heard_on, no_cut, none_is, none_whole, whole_old}
use Rattle.a429_search.proofs.SoundFacts.{same_self}
use Rattle.a429_search.proofs.searching.Search.take.Goals.{else-is_whole-via-else-is_whole, else-is_whole-via-then-is_whole+else-are_none}
use Rattle.a429_search.proofs.searching.Search.take.Goals as goal

pub returns-then-is_none-clause-covers : goal.returns-then-is_none-clause-covers
returns-then-is_none-clause-covers c = λ _ whole.
    let p = c.args.profile.now in
    let old = c.args.self.now.hypotheses.items in
    let a = c.args.attempt.now in
    let carries : CarriesOn p old a c.in_ok-next.next.items =
    subst (λ l. CarriesOn p l a c.in_ok-next.next.items) c.deref.ensures.value
    (c.in_ok-next.ensures.covers (c.cut-left_out.ensures.uncut whole)) in
    goes_on p old c.in_ok-next.next.items c.in_ok-self.field-0.items (leaves_nothing_out c.args.self.now.left_out) a
    (none_is a.acknowledged c.is_none.result c.is_none.ensures c.if-is_none.true) (whole_old c.args.self.now.left_out (c.cut-left_out.ensures.whole whole)) carries
    (c.in_ok-self.ensures.covers p)

pub returns-clause-covers : goal.returns-clause-covers
returns-clause-covers c = λ _ _.
    let p = c.args.profile.now in
    let old = c.args.self.now.hypotheses.items in
    let a = c.args.attempt.now in
    let next = c.in_ok-next.next.items in
    let carries : c.is_none-is_whole.result ≡ true → CarriesOn p old a next = λ whole.
    subst (λ l. CarriesOn p l a next) c.deref.ensures.value (c.in_ok-next.ensures.covers (c.cut-left_out.ensures.uncut (not_some _ (c.is_none-is_whole.ensures ∙ ap not whole)))) in
    let goes =
    subst (λ (o : Option _). IfSome o (λ heard. GoOnFrom p c.is_none-is_whole.result c.deref-2.result.now a heard.items))
    c.in-Some.is c.in_ok-heard.ensures.covers in
    heard_on p old next c.in-Some.heard.items c.in_ok-self-2.field-0.items (leaves_nothing_out c.args.self.now.left_out) c.is_none-is_whole.result a
    (λ whole. whole_old c.args.self.now.left_out (c.cut-left_out.ensures.whole (not_some _ (c.is_none-is_whole.ensures ∙ ap not whole)))) carries
    (subst (λ l. GoOnFrom p c.is_none-is_whole.result l a c.in-Some.heard.items) c.deref-2.ensures.value goes)
    (c.in_ok-self-2.ensures.covers p)

pub returns-then-is_none-clause-sure : goal.returns-then-is_none-clause-sure
returns-then-is_none-clause-sure c = λ _ sure. (
  sure,
  record {
    next = c.in_ok-next.next.items;
    carried =
        subst (λ (l : List Hypothesis). AreReal c.args.profile.now l
        → AreCarried c.args.profile.now l c.args.attempt.now c.in_ok-next.next.items) c.deref.ensures.value c.in_ok-next.ensures.only;
    heard = c.in_ok-next.next.items;
    after = inl refl;
    same = c.in_ok-self.ensures.same;
  },
)

pub returns-in_default-clause-sure : goal.returns-in_default-clause-sure
returns-in_default-clause-sure c = λ _ sure. (
  sure,
  record {
    next = c.in_ok-next.next.items;
    carried =
        subst (λ (l : List Hypothesis). AreReal c.args.profile.now l
        → AreCarried c.args.profile.now l c.args.attempt.now c.in_ok-next.next.items) c.deref.ensures.value c.in_ok-next.ensures.only;
    heard = c.in_ok-next.next.items;
    after = inl refl;
    same = same_self c.in_ok-next.next.items;
  },
)

pub returns-clause-sure : goal.returns-clause-sure
returns-clause-sure c = λ _ sure.
    let p = c.args.profile.now in
    let old = c.args.self.now.hypotheses.items in
    let a = c.args.attempt.now in
    let next = c.in_ok-next.next.items in
    let heard =
    subst (λ (o : Option _). IfSome o (λ heard. c.is_none-is_whole.result ≡ true → (c.deref-2.result.now ≡ [] → ⊥)
    → (hyps : List Hypothesis) → AreCarried p hyps a c.deref-2.result.now → AreHeard p c.deref-2.result.now heard.items))
    c.in-Some.is c.in_ok-heard.ensures.only in
    let heard_next =
    subst (λ (l : List Hypothesis). c.is_none-is_whole.result ≡ true → (l ≡ [] → ⊥) → (hyps : List Hypothesis)
    → AreCarried p hyps a l → AreHeard p l c.in-Some.heard.items) c.deref-2.ensures.value heard in
    let both = no_cut c.args.self.now.unsure c.cut-left_out.result (sym c.or-self.ensures ∙ sure) in
    let whole : (c.args.self.now.unsure ≡ None) × (c.is_none-is_whole.result ≡ true) =
    (both.0, none_whole c.cut-left_out.result c.is_none-is_whole.result c.is_none-is_whole.ensures both.1) in
    let some : next ≡ [] → ⊥ =
    elim c.else-is_whole.branch [
      | else-is_whole-via-then-is_whole+else-are_none w ↦
          λ none. w.are_none.ensures.some w.if-are_none.false (w.deref-then-is_whole.ensures.value ∙ none)
      | else-is_whole-via-else-is_whole w ↦ never (sym whole.1 ∙ w.if-is_whole.false)
    ] in (
      whole.0,
      record {
        next = next;
        carried = subst (λ (l : List Hypothesis). AreReal p l → AreCarried p l a next) c.deref.ensures.value c.in_ok-next.ensures.only;
        heard = c.in-Some.heard.items;
        after = inr (acked a.acknowledged c.is_none.result c.is_none.ensures c.if-is_none.false, heard_next whole.1 some old);
        same = c.in_ok-self-2.ensures.same;
      },
    )
  where
    acked : {X : Type 0} (o : Option X) (b : Bool) → is_some o ≡ not b → b ≡ false → is_some o ≡ true
    acked o b is e = is ∙ ap not e

    never : {A : Type 0} → true ≡ false → A
    never e = absurd (cc e)
