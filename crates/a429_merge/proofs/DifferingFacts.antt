-- The attempts of a group that differ.
use Rattle.std.proofs.Common.{◌≡◌, ℕ, ◌+◌, ◌<◌, List, [], ◌∷◌, ◌++◌, length, get_or, set, inl, inr, refl, sym, ap, ◌∙◌, subst, arith, length-append}
use Rattle.std.proofs.lemmas.Bool.{cases_eq}
use Rattle.std.proofs.lemmas.List.{get_or-set_same, get_or-set_other, length-set, get_or_push, get_or_append_left, get_or_default}
use Rattle.a429_link.specs.Run.{IsSubsequenceOf}
use Rattle.a429_merge.specs.Order.{words_at, HasEach}
use Rattle.a429_merge.proofs.SubsequenceFacts.{sub_trans}

-- in place of a list that it has
pub each_replaced : (lists : List (List ℕ)) (at : ℕ) (xs zs : List ℕ)
    → at < length lists → IsSubsequenceOf (words_at lists at) xs → HasEach zs (set lists at xs) → HasEach zs lists × IsSubsequenceOf xs zs
each_replaced lists at xs zs l s each =
    let long : length (set lists at xs) ≡ length lists = length-set lists at xs in
    let here : IsSubsequenceOf xs zs = subst (λ ys. IsSubsequenceOf ys zs) (get_or-set_same lists at xs [] l) (each at [] (omega arith)) in (
      (λ k d m. elim (cases_eq k at) [
        | inl same ↦
            sub_trans (get_or lists k d) xs zs
            (subst (λ ys. IsSubsequenceOf ys xs) (ap (λ (j : ℕ). get_or lists j []) (sym same) ∙ get_or_default lists k [] d m) s) here
        | inr other ↦ subst (λ ys. IsSubsequenceOf ys zs) (get_or-set_other lists at k xs d other) (each k d (omega arith))
      ]),
      here,
    )

-- after the others
pub each_pushed : (lists : List (List ℕ)) (xs zs : List ℕ) → HasEach zs (lists ++ xs ∷ []) → HasEach zs lists × IsSubsequenceOf xs zs
each_pushed lists xs zs each =
    let long : length (lists ++ xs ∷ []) ≡ length lists + 1 = length-append lists (xs ∷ []) in (
      (λ k d m. subst (λ ys. IsSubsequenceOf ys zs) (get_or_append_left lists (xs ∷ []) d k m) (each k d (omega arith))),
      subst (λ ys. IsSubsequenceOf ys zs) (get_or_push lists xs [] (length lists) refl) (each (length lists) [] (omega arith)),
    )
