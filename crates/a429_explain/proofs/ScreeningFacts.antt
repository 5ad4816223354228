-- The recorded words, screened.
use Rattle.std.proofs.Common.{◌≡◌, inl, inr, ℕ, ◌+◌, ◌-◌, ◌<◌, ◌≤◌, min, List, length, length-take, length-drop, take, take_all, drop, get_or, slice_get, Option, IfSome, sym, ap, ◌∙◌, subst, arith}
use Rattle.std.proofs.lemmas.Bool.{cases_order}
use Rattle.std.proofs.lemmas.List.{get_or-take, get_or-drop, get_or-map}
use Rattle.std.proofs.lemmas.Option.{slice_get_cases}
use Rattle.a429_word.specs.Screening.{screened}
use Rattle.a429_record.specs.declared.entry.Entry.{Entry}
use Rattle.a429_explain.specs.Screening.{AreAnswers, window_at}

-- the first n, or all where there are fewer
take_few : (n : ℕ) (es : List Entry) → take (min (length es) n) es ≡ take n es
take_few n es = elim (cases_order n (length es)) [
  | inl e ↦ by (omega (arith, e))
  | inr (inl l) ↦ by (omega (arith, l))
  | inr (inr g) ↦
      let all : min (length es) n ≡ length es = omega (arith, g) in
      ap (λ (k : ℕ). take k es) all ∙ take_all (length es) es (omega arith) ∙ sym (take_all n es (omega (arith, g)))
]
  where
    by : min (length es) n ≡ n → take (min (length es) n) es ≡ take n es
    by e = ap (λ (k : ℕ). take k es) e

-- the first of the last ones
pub window_is : (es : List Entry) (from few : ℕ) → few ≡ min (length (take (length es - from) (drop from es))) 256
    → take few (take (length es - from) (drop from es)) ≡ window_at es from
window_is es from few e =
    let rest = take (length es - from) (drop from es) in
    let long : length (drop from es) ≤ length es - from = simp length-drop (omega arith) in
    ap (λ (k : ℕ). take k rest) e ∙ take_few 256 rest
    ∙ ap (λ (xs : List Entry). take 256 xs) (take_all (length es - from) (drop from es) long)

length-window : (es : List Entry) (from n : ℕ) → n < 256 → from + n < length es → n < length (window_at es from)
length-window es from n few inside = simp (length-take, length-drop) (omega (arith, few, inside))

-- the answer for one of those that are screened together
pub answer_at : (label : ℕ) (es : List Entry) (answers : List ℕ) (from at : ℕ)
    → from ≤ at → at - from < 256 → at < length es → AreAnswers label (window_at es from) answers
    → IfSome (slice_get es at) (λ e. get_or answers (at - from) 0 ≡ screened label e.word)
answer_at label es answers from at follows near inside are = elim (slice_get_cases es at).1 [
  | inl (x, _, found, same) ↦
      subst (λ (o : Option Entry). IfSome o (λ e. get_or answers (at - from) 0 ≡ screened label e.word)) (sym found) (by x same)
  | inr (past, _) ↦ absurd (omega (arith, past, inside))
]
  where
    by : (x : Entry) → get_or es at x ≡ x → get_or answers (at - from) 0 ≡ screened label x.word
    by x same =
        let few : at - from < length (window_at es from) = length-window es from (at - from) near (omega (arith, follows, inside)) in
        let here : from + (at - from) ≡ at = omega (arith, follows) in
        sym (get_or-take (length (window_at es from)) answers (at - from) 0 few)
        ∙ ap (λ (xs : List ℕ). get_or xs (at - from) 0) are
        ∙ get_or-map (λ e. screened label e.word) (window_at es from) (at - from) x 0 few
        ∙ ap (λ (e : Entry). screened label e.word)
        (get_or-take 256 (drop from es) (at - from) x near ∙ get_or-drop from es (at - from) x ∙ ap (λ (k : ℕ). get_or es k x) here ∙ same)

-- the first of them
pub first_answer : (label : ℕ) (es : List Entry) (answers : List ℕ) (at : ℕ) → at < length es → AreAnswers label (window_at es at) answers
    → IfSome (slice_get es at) (λ e. get_or answers 0 0 ≡ screened label e.word)
first_answer label es answers at inside are =
    let none : at - at ≡ 0 = omega arith in
    subst (λ (k : ℕ). IfSome (slice_get es at) (λ e. get_or answers k 0 ≡ screened label e.word)) none
    (answer_at label es answers at at (omega arith) (omega arith) inside are)
