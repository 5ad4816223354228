-- Where a search for a list that has several finds none.
use Rattle.std.proofs.Common.{◌≡◌, ◌==◌, ◌⊎◌, ℕ, ◌+◌, ◌-◌, ◌<◌, ◌≤◌, Bool, true, false, cond, List, [], ◌∷◌, ◌++◌, length, take, drop, slice_get, slice_index, get_or, Option, Some, None, is_some, All, refl, sym, ap, ◌∙◌, subst, inl, inr, arith, append_assoc, length-append}
use Rattle.std.proofs.Math.Seq.{take-append_seam}
use Rattle.std.proofs.lemmas.Bool.{eqb-false, cases_eq}
use Rattle.std.proofs.lemmas.List.{drop_all, length-drop, get_or_default}
use Rattle.std.proofs.lemmas.List.Elements.{All-contains, All-push, All-append, Contains-push, Contains-append_left, Contains-append_right}
use Rattle.a429_profile.specs.Profile.{Contents}
use Rattle.a429_link.specs.Run.{IsSubsequenceOf}
use Rattle.a429_link.proofs.Subsequence.{sub_none, sub_length}
use Rattle.a429_merge.specs.declared.bounded.Step.{Step}
use Rattle.a429_merge.specs.Order.{words_at, IsNext, IsAllPassed, step_over, passed_with}
use Rattle.a429_merge.specs.Fill.{Fits, AreDataOf}
use Rattle.a429_merge.specs.Bounded.{HasRests, IsBoundedStep, AreSteps, HasStepOf, Reaches, IsHopeless}
use Rattle.a429_merge.proofs.SubsequenceFacts.{sub_tails, sub_other}
use Rattle.a429_word.proofs.ListFacts.{none_past}
use Rattle.a429_merge.proofs.OrderFacts.{rest_at, next_or_none, get_front}

-- what is left of a list, where a word comes first in a list that has it: the word is passed where it is next
after_if : (xs : List ℕ) (k z x : ℕ) (more : List ℕ) → slice_get xs k ≡ Some x → IsSubsequenceOf (x ∷ drop (k + 1) xs) (z ∷ more)
    → (b : Bool) → (x == z) ≡ b → IsSubsequenceOf (drop (cond b (k + 1) k) xs) more
after_if xs k z x more e left true same = sub_tails x z (drop (k + 1) xs) more left
after_if xs k z x more e left false other =
    subst (λ l. IsSubsequenceOf l more) (sym (rest_at xs k z x e)) (sub_other x z (drop (k + 1) xs) more (eqb-false x z other) left)

after_word : (xs : List ℕ) (k z : ℕ) (more : List ℕ)
    → (o : Option ℕ) → slice_get xs k ≡ o → IsSubsequenceOf (drop k xs) (z ∷ more) → IsSubsequenceOf (drop (step_over o k z) xs) more
after_word xs k z more None e h = rw (drop_all k xs (none_past xs k e)) (sub_none more)
after_word xs k z more (Some x) e h =
    after_if xs k z x more e (subst (λ l. IsSubsequenceOf l (z ∷ more)) (rest_at xs k z x e) h) (x == z) refl

-- where the word is not next, it is of no use
useless : (xs : List ℕ) (k z : ℕ) (more : List ℕ)
    → ¬ (slice_get xs k ≡ Some z) → IsSubsequenceOf (drop k xs) (z ∷ more) → IsSubsequenceOf (drop k xs) more
useless xs k z more none (inl h) = h
useless xs k z more none (inr (ys, e, h)) = absurd (none (get_front xs k z ys e))

module _ (p : Contents) (count : ℕ) (wanted : Option ℕ) (lists : List (List ℕ)) where
  -- one word later
  reaches_moved : (merged more : List ℕ) (z : ℕ) → Reaches p count wanted merged (z ∷ more) → Reaches p count wanted (merged ++ z ∷ []) more
  reaches_moved merged more z (inl h) = inl (omega (arith, h, length-append merged (z ∷ [])))
  reaches_moved merged more z (inr (e, f)) =
      inr (omega (arith, e, length-append merged (z ∷ [])), subst (Fits p wanted) (sym (append_assoc merged (z ∷ []) more)) f)

  -- without a word that is of no use there are fewer
  reaches_fewer : (merged more : List ℕ) (z : ℕ) → Reaches p count wanted merged (z ∷ more) → Reaches p count wanted merged more
  reaches_fewer merged more z (inl h) = inl (omega (arith, h))
  reaches_fewer merged more z (inr (e, f)) = inl (omega (arith, e))

  -- ---- a word is next

  -- what follows each word that may come next is hopeless
  abbrev pub AllHopeless : List ℕ → List ℕ → Type 0
  AllHopeless passed merged = (i w : ℕ) → i < length lists → IsNext lists passed i w
      → (after : List ℕ) × ((j : ℕ) → j < length lists → slice_index after j ≡ passed_with (words_at lists j) (slice_index passed j) w)
      × IsHopeless p count wanted lists after (merged ++ w ∷ [])

  none_left : (passed : List ℕ) → HasRests lists passed [] → IsAllPassed lists passed
  none_left passed has i l =
      let none : length (drop (slice_index passed i) (words_at lists i)) ≡ 0 = ap length (has i l) in
      omega (arith, none, length-drop (slice_index passed i) (words_at lists i))

  pub hopeless_node : (passed merged : List ℕ)
      → ¬ IsAllPassed lists passed → AllHopeless passed merged → IsHopeless p count wanted lists passed merged
  hopeless_node passed merged left all [] has r = left (none_left passed has)
  hopeless_node passed merged left all (z ∷ more) has r =
      elim (next_or_none lists passed z (length lists)) [
        | inl (i, l, next) ↦
            let found = all i z l next in
            found.2 more
            (λ j m. rw (found.1 j m) (after_word (words_at lists j) (slice_index passed j) z more
            (slice_get (words_at lists j) (slice_index passed j)) refl (has j m)))
            (reaches_moved merged more z r)
        | inr none ↦
            hopeless_node passed merged left all more (λ j m. useless (words_at lists j) (slice_index passed j) z more (none j m) (has j m))
            (reaches_fewer merged more z r)
      ]

  -- ---- steps

  -- a step whose bound is too high
  pub hopeless_far : (passed merged : List ℕ) (i : ℕ) (s : Step) → IsBoundedStep lists passed i s → length merged ≤ count
      → count - length merged ≤ s.left → IsHopeless p count wanted lists s.passed.items (merged ++ s.word ∷ [])
  hopeless_far passed merged i s b short far more has (inl h) =
      omega (arith, h, short, far, b.bound more has, length-append merged (s.word ∷ []))
  hopeless_far passed merged i s b short far more has (inr (e, f)) =
      omega (arith, e, short, far, b.bound more has, length-append merged (s.word ∷ []))

  pub hopeless_steps : (passed merged : List ℕ) (steps : List Step) → ¬ IsAllPassed lists passed → AreSteps lists passed steps
      → ((i : ℕ) → i < length lists → (w : ℕ) → IsNext lists passed i w → HasStepOf w steps)
      → All (λ s. IsHopeless p count wanted lists s.passed.items (merged ++ s.word ∷ [])) steps
      → IsHopeless p count wanted lists passed merged
  hopeless_steps passed merged steps left are every hopeless = hopeless_node passed merged left (λ i w l next.
      let (s, c, same) = every i l w next in
      let (j, m, b) = All-contains (λ s. (i : ℕ) × (i < length lists) × IsBoundedStep lists passed i s) steps s are c in
      let none = All-contains (λ s. IsHopeless p count wanted lists s.passed.items (merged ++ s.word ∷ [])) steps s hopeless c in (
        s.passed.items,
        (λ j m. b.step.passes j m ∙ ap (λ (v : ℕ). passed_with (words_at lists j) (slice_index passed j) v) same),
        subst (λ (v : ℕ). IsHopeless p count wanted lists s.passed.items (merged ++ v ∷ [])) same none,
      ))

  -- ---- from the start

  pub none_at_all : (passed : List ℕ) → ((i : ℕ) → i < length lists → slice_index passed i ≡ 0) → IsHopeless p count wanted lists passed []
      → (words : List ℕ) → ¬ AreDataOf p count wanted lists words
  none_at_all passed zeros hopeless words d = hopeless words (λ i l. rw (zeros i l) (d.each i [] l)) (inr (omega (arith, d.long), d.fits))

-- ---- one step

-- the word is next in an earlier list
pub next_before : (lists : List (List ℕ)) (ps : List ℕ) (i w : ℕ)
    → ¬ ((j : ℕ) → j < i → ¬ IsNext lists ps j w) → (j : ℕ) × (j < i) × IsNext lists ps j w
next_before lists ps i w h = elim (next_or_none lists ps w i) [ inl found ↦ found | inr none ↦ absurd (h none) ]

pub same_next : (lists : List (List ℕ)) (ps : List ℕ) (i v w : ℕ)
    → slice_get (words_at lists i) (slice_index ps i) ≡ Some v → IsNext lists ps i w → v ≡ w
same_next lists ps i v w e f = let same : Some v ≡ Some w = sym e ∙ f in cc

-- ---- all steps

-- both are steps, and a word that is next in one of the first n lists is passed by one of them
pub record AreStepsUpTo (lists : List (List ℕ)) (passed : List ℕ) (n : ℕ) (best others : List Step) : Type 0 where
  pub are_best : AreSteps lists passed best
  pub are_others : AreSteps lists passed others
  pub every : (i w : ℕ) → i < n → i < length lists → IsNext lists passed i w → HasStepOf w best ⊎ HasStepOf w others

-- one of more steps
old_step : (w : ℕ) (steps : List Step) (s : Step) → HasStepOf w steps → HasStepOf w (steps ++ s ∷ [])
old_step w steps s (t, c, e) = (t, Contains-append_left steps (s ∷ []) t c, e)

new_step : (lists : List (List ℕ)) (passed : List ℕ) (i w : ℕ) (steps : List Step) (s : Step)
    → IsBoundedStep lists passed i s → IsNext lists passed i w → HasStepOf w (steps ++ s ∷ [])
new_step lists passed i w steps s b next = (s, Contains-push steps s, same_next lists passed i s.word w b.step.next next)

is_or_before : (i n : ℕ) → i < n + 1 → (i < n) ⊎ (i ≡ n)
is_or_before i n l = elim (cases_eq i n) [ inl e ↦ inr e | inr ne ↦ inl (omega arith) ]

module _ (lists : List (List ℕ)) (passed : List ℕ) (n : ℕ) (best others : List Step) (are : AreStepsUpTo lists passed n best others) where
  pub steps_without : ((w : ℕ) → IsNext lists passed n w → (j : ℕ) × (j < n) × IsNext lists passed j w)
      → AreStepsUpTo lists passed (n + 1) best others
  steps_without before = record {
    are_best = are.are_best;
    are_others = are.are_others;
    every = λ i w l m next. elim (is_or_before i n l) [
      | inl less ↦ are.every i w less m next
      | inr same ↦ let (j, k, earlier) = before w (subst (λ j. IsNext lists passed j w) same next) in are.every j w k (omega arith) earlier
    ];
  }

  module _ (s : Step) (inside : n < length lists) (b : IsBoundedStep lists passed n s) where
    pub steps_best : AreStepsUpTo lists passed (n + 1) (best ++ s ∷ []) others
    steps_best = record {
      are_best = All-push (λ s. (i : ℕ) × (i < length lists) × IsBoundedStep lists passed i s) best s are.are_best (n, inside, b);
      are_others = are.are_others;
      every = λ i w l m next. elim (is_or_before i n l) [
        | inl less ↦ elim (are.every i w less m next) [ inl h ↦ inl (old_step w best s h) | inr h ↦ inr h ]
        | inr same ↦ inl (new_step lists passed n w best s b (subst (λ j. IsNext lists passed j w) same next))
      ];
    }

    pub steps_other : AreStepsUpTo lists passed (n + 1) best (others ++ s ∷ [])
    steps_other = record {
      are_best = are.are_best;
      are_others = All-push (λ s. (i : ℕ) × (i < length lists) × IsBoundedStep lists passed i s) others s are.are_others (n, inside, b);
      every = λ i w l m next. elim (is_or_before i n l) [
        | inl less ↦ elim (are.every i w less m next) [ inl h ↦ inl h | inr h ↦ inr (old_step w others s h) ]
        | inr same ↦ inr (new_step lists passed n w others s b (subst (λ j. IsNext lists passed j w) same next))
      ];
    }

-- all of them in one list
pub all_steps : (lists : List (List ℕ)) (passed : List ℕ) (n : ℕ) (best others : List Step)
    → length lists ≤ n → AreStepsUpTo lists passed n best others → AreSteps lists passed (best ++ others)
    × ((i : ℕ) → i < length lists → (w : ℕ) → IsNext lists passed i w → HasStepOf w (best ++ others))
all_steps lists passed n best others all are = (
  All-append (λ s. (i : ℕ) × (i < length lists) × IsBoundedStep lists passed i s) best others are.are_best are.are_others,
  (λ i l w next. elim (are.every i w (omega (arith, l, all)) l next) [
    | inl (s, c, e) ↦ (s, Contains-append_left best others s c, e)
    | inr (s, c, e) ↦ (s, Contains-append_right best others s c, e)
  ]),
)

pub same_steps : (lists : List (List ℕ)) (passed : List ℕ) (n : ℕ) (best others best' others' : List Step)
    → best' ≡ best → others' ≡ others → AreStepsUpTo lists passed n best others → AreStepsUpTo lists passed n best' others'
same_steps lists passed n best others best' others' e f are = rw (e, f) are

-- ---- one after the other

pub one_more : (P : Step → Type 0) (items : List Step) (n : ℕ) (s : Step) → n < length items → s ≡ get_or items n s → P s
    → ((k : ℕ) (d : Step) → k < n → P (get_or items k d)) → (k : ℕ) (d : Step) → k < n + 1 → P (get_or items k d)
one_more P items n s l e p h k d m = elim (is_or_before k n m) [
  | inl less ↦ h k d less
  | inr same ↦ subst (λ j. P (get_or items j d)) (sym same) (subst P (e ∙ get_or_default items n s d l) p)
]

pub is_none : {X : Type 0} (o : Option X) → false ≡ is_some o → o ≡ None
is_none None e = refl
is_none (Some x) e = absurd (cc e)

pub one_less : (xs ys zs : List ℕ) (w n : ℕ) → zs ≡ take (n - 1) ys → ys ≡ xs ++ w ∷ [] → n ≡ length ys → zs ≡ xs
one_less xs ys zs w n is e l =
    let m : n - 1 ≡ length xs = omega (arith, l, ap length e, length-append xs (w ∷ [])) in
    is ∙ ap (λ (k : ℕ). take k ys) m ∙ ap (take (length xs)) e ∙ take-append_seam xs (w ∷ [])

-- a list is longer than wanted
pub none_with_long : (p : Contents) (count : ℕ) (wanted : Option ℕ) (lists : List (List ℕ)) (i : ℕ)
    → count ≤ 253 → i < length lists → 253 < length (words_at lists i) → (words : List ℕ) → ¬ AreDataOf p count wanted lists words
none_with_long p count wanted lists i few l long words d =
    omega (arith, few, long, d.long, sub_length (words_at lists i) words (d.each i [] l))
