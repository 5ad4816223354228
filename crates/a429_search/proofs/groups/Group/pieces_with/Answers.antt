use Rattle.std.proofs.Common.{◌≡◌, IfSome, List, Option, true, refl, subst, sym, ℕ}
use Rattle.a429_merge.specs.declared.pieces.EndWord.{EndWord}
use Rattle.a429_link.specs.Run.{IsSubsequenceOf}
use Rattle.a429_merge.specs.Order.{HasEach, lists_of}
use Rattle.a429_search.proofs.GroupFacts.{in_lists, of_new, with_attempt, without_attempt}
use Rattle.a429_search.proofs.groups.Group.pieces_with.Goals as goal

pub returns-clause-covers : goal.returns-clause-covers
returns-clause-covers c = λ p u is may.
    let only =
    subst (λ (o : Option _). IfSome o (λ kept. (zs : List ℕ)
    → HasEach zs (lists_of c.deref.result.now) → IsSubsequenceOf c.deref-2.result.now zs → HasEach zs (lists_of kept.items)))
    c.in-Some.is c.in_ok-attempts.ensures.only in
    with_attempt p u c.args.self.now.pieces _ c.args.attempt.now refl c.or.ensures c.gfi.ensures c.or-2.ensures
    (λ each words. only u.words (subst (λ l. HasEach u.words (lists_of l)) (sym c.deref.ensures.value) each)
    (subst (λ l. IsSubsequenceOf l u.words) (sym c.deref-2.ensures.value) words)) is may

pub returns-clause-only : goal.returns-clause-only
returns-clause-only c = λ agree p u is.
    let taken = c.args.self.now.pieces.attempts.items in
    let a = c.args.attempt.now in
    let all =
    subst (λ (o : Option _). IfSome o (λ kept. (zs : List ℕ) → HasEach zs (lists_of kept.items)
    → HasEach zs (lists_of c.deref.result.now) × (c.args.is_new ≡ true → IsSubsequenceOf c.deref-2.result.now zs)))
    c.in-Some.is c.in_ok-attempts.ensures.all in
    without_attempt p u c.args.self.now.pieces _ a refl c.or.ensures c.gfi.ensures c.or-2.ensures
    (λ each.
    let both = all u.words each in
    let has = subst (λ l. HasEach u.words (lists_of l)) c.deref.ensures.value both.0 in (
      has,
      of_new c.args.is_new a.words.items u.words (lists_of taken) has
          (λ new. subst (λ l. IsSubsequenceOf l u.words) c.deref-2.ensures.value (both.1 new))
          (λ old. in_lists a.words.items taken (c.requires.has old)),
    ))
    agree is

pub returns-clause-same : goal.returns-clause-same
returns-clause-same c = λ old gfi end p u is.
    let taken = c.args.self.now.pieces.attempts.items in
    let a = c.args.attempt.now in
    let only =
    subst (λ (o : Option _). IfSome o (λ kept. (zs : List ℕ)
    → HasEach zs (lists_of c.deref.result.now) → IsSubsequenceOf c.deref-2.result.now zs → HasEach zs (lists_of kept.items)))
    c.in-Some.is c.in_ok-attempts.ensures.only in
    let has =
    of_new c.args.is_new a.words.items u.words (lists_of taken) is.each (λ new. absurd (cc (new, old)))
    (λ _. in_lists a.words.items taken (c.requires.has old)) in
    record {
      unit = is.unit;
      count = is.count;
      gfi = subst (λ (o : Option ℕ). IfSome o (λ n. u.gfi ≡ n)) (sym gfi) is.gfi;
      end = subst (λ (o : Option EndWord). IfSome o (λ e. (u.flags ≡ e.flags) × (u.check ≡ e.check))) (sym end) is.end;
      each =
          only u.words (subst (λ l. HasEach u.words (lists_of l)) (sym c.deref.ensures.value) is.each)
          (subst (λ l. IsSubsequenceOf l u.words) (sym c.deref-2.ensures.value) has);
    }
