use Rattle.std.proofs.Common.{◌≡◌, arith, ◌++◌, ◌∷◌, ◌∙◌, [], List, Vec, Global, ℕ, ap, refl, subst}
use Rattle.a429_link.specs.Run.{IsSubsequenceOf}
use Rattle.a429_merge.specs.Order.{HasEach, lists_of}
use Rattle.a429_search.proofs.GroupFacts.{of_attempt}
use Rattle.a429_search.proofs.groups.Group.begin.Goals as goal

pub returns-in-Some-clause-only : goal.returns-in-Some-clause-only
returns-in-Some-clause-only c = λ u is.
    let a = c.args.attempt.now in
    let words : c.in_ok-from_slice.field-0.items ≡ a.words.items = c.in_ok-from_slice.ensures.items ∙ c.deref.ensures.value in
    let lists : c.push.new.self.items ≡ c.in_ok-from_slice.field-0 ∷ [] =
    c.in_ok-push.ensures.items ∙ ap (λ (l : List (Vec ℕ Global)). l ++ c.in_ok-from_slice.field-0 ∷ []) c.new-attempts.ensures.items in
    of_attempt c.args.profile.now u _ a refl c.gfi.ensures refl
    (λ each. subst (λ l. IsSubsequenceOf l u.words) words
    ((subst (λ (l : List (Vec ℕ Global)). HasEach u.words (lists_of l)) lists each) 0 [] (omega arith)))
    is
