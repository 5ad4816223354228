-- One list for several, where one order keeps all.
use Rattle.std.proofs.Common.{◌≡◌, ◌≢◌, ◌==◌, ◌⊎◌, ℕ, zero, suc, ◌+◌, ◌-◌, ◌<◌, ◌≤◌, Bool, true, false, cond, List, [], ◌∷◌, ◌++◌, length, take, drop, get_or, slice_get, slice_index, Option, Some, None, Contains, Vec, refl, sym, ap, ◌∙◌, subst, inl, inr, arith}
use Rattle.std.proofs.lemmas.Bool.{eqb-true, eqb-false, eq-eqb, cases_eq}
use Rattle.std.proofs.lemmas.List.{drop_more, drop_all, take_more, take_all, length-drop, length-map, get_or_default}
use Rattle.std.proofs.lemmas.List.Elements.{Contains-push_cases}
use Rattle.std.proofs.lemmas.Option.{slice_get_within, get_or_from_slice_get}
use Rattle.a429_word.proofs.ListFacts.{none_past}
use Rattle.a429_link.specs.Run.{IsSubsequenceOf}
use Rattle.a429_merge.specs.Order.{lists_of, words_at, HasEach, HasNoneTwice, AreTheirs, IsNext, IsLater, IsFree, IsAllPassed, step_over, passed_with}
use Rattle.a429_link.proofs.Subsequence.{sub_push, sub_lost}
use Rattle.a429_merge.proofs.SubsequenceFacts.{sub_drop, sub_tails, sub_contains, in_cons, in_more}

-- ---- one list, with one word more

no_word : (v : ℕ) → ¬ Contains [] v
no_word v (k, l, e) = absurd (omega arith)

module _ (xs : List ℕ) (k w : ℕ) where
  next_at : (x : ℕ) → slice_get xs k ≡ Some x → take (k + 1) xs ≡ take k xs ++ x ∷ []
  next_at x e = take_more xs k 0 (slice_get_within xs k x e) ∙ ap (λ (y : ℕ). take k xs ++ y ∷ []) (get_or_from_slice_get xs k x 0 e)

  pub rest_at : (x : ℕ) → slice_get xs k ≡ Some x → drop k xs ≡ x ∷ drop (k + 1) xs
  rest_at x e = drop_more xs k 0 (slice_get_within xs k x e) ∙ ap (λ (y : ℕ). y ∷ drop (k + 1) xs) (get_or_from_slice_get xs k x 0 e)

  module _ (merged : List ℕ) (kept : IsSubsequenceOf (take k xs) merged) where
    kept_if : (x : ℕ)
        → slice_get xs k ≡ Some x → (b : Bool) → (x == w) ≡ b → IsSubsequenceOf (take (cond b (k + 1) k) xs) (merged ++ w ∷ [])
    kept_if x e true same =
        let is : x ≡ w = eqb-true x w same in
        rw (next_at x e, is) (sub_push w (take k xs) merged kept)
    kept_if x e false other = sub_lost w (take k xs) merged kept

    pub kept_over : (o : Option ℕ) → slice_get xs k ≡ o → IsSubsequenceOf (take (step_over o k w) xs) (merged ++ w ∷ [])
    kept_over None e = sub_lost w (take k xs) merged kept
    kept_over (Some x) e = kept_if x e (x == w) refl

  module _ (merged : List ℕ) (apart : (v : ℕ) → Contains merged v → ¬ Contains (drop k xs) v) (free : ¬ IsLater xs k w) (v : ℕ) where
    gone : (x : ℕ) → slice_get xs k ≡ Some x → x ≢ w → ¬ Contains (drop k xs) w
    gone x e other c =
        elim (in_cons x (drop (k + 1) xs) w (subst (λ l. Contains l w) (rest_at x e) c)) [ inl same ↦ other same | inr later ↦ free later ]

    apart_if : (x : ℕ)
        → slice_get xs k ≡ Some x → (b : Bool) → (x == w) ≡ b → Contains merged v ⊎ (w ≡ v) → ¬ Contains (drop (cond b (k + 1) k) xs) v
    apart_if x e true same (inl old) c = apart v old (subst (λ l. Contains l v) (sym (rest_at x e)) (in_more x (drop (k + 1) xs) v c))
    apart_if x e true same (inr is) c = free (subst (λ u. Contains (drop (k + 1) xs) u) (sym is) c)
    apart_if x e false other (inl old) c = apart v old c
    apart_if x e false other (inr is) c = gone x e (eqb-false x w other) (subst (λ u. Contains (drop k xs) u) (sym is) c)

    apart_over : (o : Option ℕ) → slice_get xs k ≡ o → Contains merged v ⊎ (w ≡ v) → ¬ Contains (drop (step_over o k w) xs) v
    apart_over None e (inl old) c = apart v old c
    apart_over None e (inr is) c = let none : drop k xs ≡ [] = drop_all k xs (none_past xs k e) in no_word v (subst (λ l. Contains l v) none c)
    apart_over (Some x) e h c = apart_if x e (x == w) refl h c

-- no word stands twice, with one more that does not stand
once_push : (xs : List ℕ) (w : ℕ) → HasNoneTwice xs → ¬ Contains xs w → HasNoneTwice (xs ++ w ∷ [])
once_push [] w h n = ((λ (k, l, e). absurd (omega arith)), tt)
once_push (x ∷ xs) w h n = (
  (λ c. elim (Contains-push_cases xs w x c) [
    | inl old ↦ h.0 old
    | inr same ↦ n (zero, omega arith, sym same)
  ]),
  once_push xs w h.1 (λ c. n (in_more x xs w c)),
)

-- ---- all lists

pub inside_lists : {Z : Type 0} (lists : List (Vec ℕ Z)) (i : ℕ) → i < length lists → i < length (lists_of lists)
inside_lists lists i l = rw (length-map lists (λ v. v.items)) l

pub inside_given : {Z : Type 0} (lists : List (Vec ℕ Z)) (i : ℕ) → i < length (lists_of lists) → i < length lists
inside_given lists i l = rw (length-map lists (λ v. v.items)) at l

-- so many words of each list are passed, and these are merged
pub record Merging (lists : List (List ℕ)) (passed merged : List ℕ) : Type 0 where
  pub counted : length passed ≡ length lists
  pub kept : (i : ℕ) → i < length lists → IsSubsequenceOf (take (slice_index passed i) (words_at lists i)) merged
  pub once : HasNoneTwice merged
  pub own : AreTheirs merged lists
  pub apart : (i : ℕ) → i < length lists → (v : ℕ) → Contains merged v → ¬ Contains (drop (slice_index passed i) (words_at lists i)) v

-- these are passed with one word more
abbrev pub Passes : List (List ℕ) → List ℕ → List ℕ → ℕ → Type 0
Passes lists ps qs w = (i : ℕ) → i < length lists → slice_index qs i ≡ passed_with (words_at lists i) (slice_index ps i) w

-- it comes next in some list
abbrev pub ComesNext : List (List ℕ) → List ℕ → ℕ → Type 0
ComesNext lists ps w = (i : ℕ) × (i < length lists) × IsNext lists ps i w

-- the next word of a list is one of it
pub next_is_theirs : (xs : List ℕ) (k w : ℕ) → slice_get xs k ≡ Some w → Contains xs w
next_is_theirs xs k w e = (k, slice_get_within xs k w e, get_or_from_slice_get xs k w w e)

pub merging_more : (lists : List (List ℕ)) (ps qs merged : List ℕ) (w : ℕ) → Merging lists ps merged → length qs ≡ length ps
    → Passes lists ps qs w → ComesNext lists ps w → IsFree lists ps w → Merging lists qs (merged ++ w ∷ [])
merging_more lists ps qs merged w m e p next free = record {
  counted = e ∙ m.counted;
  kept =
      λ i l. rw (p i l)
      (kept_over (words_at lists i) (slice_index ps i) w merged (m.kept i l) (slice_get (words_at lists i) (slice_index ps i)) refl);
  own = λ v c. elim (Contains-push_cases merged w v c) [
    | inl old ↦ m.own v old
    | inr same ↦ (
      next.0,
      next.1,
      subst (λ u. Contains (words_at lists next.0) u) same (next_is_theirs (words_at lists next.0) (slice_index ps next.0) w next.2),
    )
  ];
  once =
      once_push merged w m.once
      (λ c. m.apart next.0 next.1 w c (rw (rest_at (words_at lists next.0) (slice_index ps next.0) w w next.2) (zero, omega arith, refl)));
  apart =
      λ i l v c. rw (p i l)
      (apart_over (words_at lists i) (slice_index ps i) w merged (m.apart i l) (free i l) v
      (slice_get (words_at lists i) (slice_index ps i)) refl (Contains-push_cases merged w v c));
}

-- where the passed words of each list are kept and all are passed, all are kept
pub all_kept : (lists : List (List ℕ)) (ps merged : List ℕ)
    → ((i : ℕ) → i < length lists → IsSubsequenceOf (take (slice_index ps i) (words_at lists i)) merged) → IsAllPassed lists ps
    → HasEach merged lists
all_kept lists ps merged kept all k d l =
    rw (get_or_default lists k d [] l)
    (subst (λ xs. IsSubsequenceOf xs merged) (take_all (slice_index ps k) (words_at lists k) (all k l)) (kept k l))

-- ---- none is free

pub get_front : (xs : List ℕ) (k z : ℕ) (zs : List ℕ) → drop k xs ≡ z ∷ zs → slice_get xs k ≡ Some z
get_front [] zero z zs e = absurd (cc e)
get_front [] (suc k) z zs e = absurd (cc e)
get_front (x ∷ xs) zero z zs e = cc
get_front (x ∷ xs) (suc k) z zs e = get_front xs k z zs e

is_or_not : (o : Option ℕ) (z : ℕ) → (o ≡ Some z) ⊎ (¬ (o ≡ Some z))
is_or_not None z = inr (λ e. absurd (cc e))
is_or_not (Some x) z = elim (cases_eq x z) [ inl e ↦ inl (ap Some e) | inr n ↦ inr (λ e. n (cc)) ]

-- the word comes next in a list, or in none
pub next_or_none : (lists : List (List ℕ)) (ps : List ℕ) (z n : ℕ)
    → ((i : ℕ) × (i < n) × IsNext lists ps i z) ⊎ ((i : ℕ) → i < n → ¬ IsNext lists ps i z)
next_or_none lists ps z zero = inr (λ i l. absurd (omega arith))
next_or_none lists ps z (suc n) =
    elim (next_or_none lists ps z n) [
      | inl found ↦ inl (found.0, omega arith, found.2)
      | inr none ↦ elim (is_or_not (slice_get (words_at lists n) (slice_index ps n)) z) [
        | inl here ↦ inl (n, omega arith, here)
        | inr not_here ↦ inr (λ i l. elim (cases_eq i n) [
          | inl same ↦ subst (λ j. ¬ IsNext lists ps j z) (sym same) not_here
          | inr other ↦ none i (omega arith)
        ])
      ]
    ]

-- where the list begins with a word that comes next in some list, the word comes later in none
not_later : (xs : List ℕ) (k z : ℕ) (zs : List ℕ) → ¬ Contains zs z → IsSubsequenceOf (drop k xs) (z ∷ zs) → ¬ IsLater xs k z
not_later xs k z zs n h (j, l, e) =
    let inside : k < length xs = omega (arith, length-drop (k + 1) xs) in
    let all : drop k xs ≡ get_or xs k 0 ∷ drop (k + 1) xs = drop_more xs k 0 inside in
    n (sub_contains (drop (k + 1) xs) zs z
    (sub_tails (get_or xs k 0) z (drop (k + 1) xs) zs (subst (λ ys. IsSubsequenceOf ys (z ∷ zs)) all h)) (j, l, e))

-- the words left of each list stand in a list in which none stands twice: where none that comes next is free, none are left
stuck : (lists : List (List ℕ)) (ps : List ℕ)
    → ((i : ℕ) → i < length lists → (w : ℕ) → IsNext lists ps i w → ¬ IsFree lists ps w) → (zs : List ℕ) → HasNoneTwice zs
    → ((i : ℕ) → i < length lists → IsSubsequenceOf (drop (slice_index ps i) (words_at lists i)) zs) → IsAllPassed lists ps
stuck lists ps blocked [] h s i l =
    let none : length (drop (slice_index ps i) (words_at lists i)) ≡ 0 = ap length (s i l) in
    omega (arith, none, length-drop (slice_index ps i) (words_at lists i))
stuck lists ps blocked (z ∷ zs) h s i l =
    elim (next_or_none lists ps z (length lists)) [
      | inl next ↦ absurd (blocked next.0 next.1 z next.2 (λ j l. not_later (words_at lists j) (slice_index ps j) z zs h.0 (s j l)))
      | inr none ↦ stuck lists ps blocked zs h.1 (λ i l. elim (s i l) [
        | inl rest ↦ rest
        | inr (ys, e, rest) ↦ absurd (none i l (get_front (words_at lists i) (slice_index ps i) z ys e))
      ]) i l
    ]

pub no_order : (lists : List (List ℕ)) (ps : List ℕ) → ((i : ℕ) → i < length lists → (w : ℕ) → IsNext lists ps i w → ¬ IsFree lists ps w)
    → ¬ IsAllPassed lists ps → (zs : List ℕ) → HasNoneTwice zs → ¬ HasEach zs lists
no_order lists ps blocked left zs h each =
    left (stuck lists ps blocked zs h (λ i l. sub_drop (slice_index ps i) (words_at lists i) zs (each i [] l)))

-- ---- how many words are left

abbrev pub left_count : List (List ℕ) → List ℕ → ℕ
left_count [] ks = 0
left_count (xs ∷ lists) [] = 0
left_count (xs ∷ lists) (k ∷ ks) = (length xs - k) + left_count lists ks

no_more : (lists : List (List ℕ)) (ps qs : List ℕ) → length ps ≡ length lists → length qs ≡ length lists
    → ((i : ℕ) → i < length lists → get_or ps i 0 ≤ get_or qs i 0) → left_count lists qs ≤ left_count lists ps
no_more [] ps qs e f h = omega arith
no_more (xs ∷ lists) [] qs e f h = absurd (omega arith)
no_more (xs ∷ lists) (p ∷ ps) [] e f h = absurd (omega arith)
no_more (xs ∷ lists) (p ∷ ps) (q ∷ qs) e f h =
    let here : p ≤ q = h zero (omega arith) in
    omega (arith, no_more lists ps qs (omega arith) (omega arith) (λ i l. h (suc i) (omega arith)))

fewer : (lists : List (List ℕ)) (ps qs : List ℕ) → length ps ≡ length lists → length qs ≡ length lists
    → ((i : ℕ) → i < length lists → get_or ps i 0 ≤ get_or qs i 0) → (i : ℕ) → i < length lists → get_or ps i 0 < get_or qs i 0
    → get_or ps i 0 < length (get_or lists i []) → left_count lists qs < left_count lists ps
fewer [] ps qs e f h i l m n = absurd (omega arith)
fewer (xs ∷ lists) [] qs e f h i l m n = absurd (omega arith)
fewer (xs ∷ lists) (p ∷ ps) [] e f h i l m n = absurd (omega arith)
fewer (xs ∷ lists) (p ∷ ps) (q ∷ qs) e f h zero l m n =
    omega (arith, no_more lists ps qs (omega arith) (omega arith) (λ i l. h (suc i) (omega arith)))
fewer (xs ∷ lists) (p ∷ ps) (q ∷ qs) e f h (suc i) l m n =
    let here : p ≤ q = h zero (omega arith) in
    omega (arith, fewer lists ps qs (omega arith) (omega arith) (λ i l. h (suc i) (omega arith)) i (omega arith) m n)

le_if : (b : Bool) (k : ℕ) → k ≤ cond b (k + 1) k
le_if true k = omega arith
le_if false k = omega arith

step_le : (o : Option ℕ) (k w : ℕ) → k ≤ step_over o k w
step_le None k w = omega arith
step_le (Some x) k w = le_if (x == w) k

pub passes_fewer : (lists : List (List ℕ)) (ps qs : List ℕ) (w : ℕ) → length ps ≡ length lists → length qs ≡ length lists
    → Passes lists ps qs w → ComesNext lists ps w → left_count lists qs < left_count lists ps
passes_fewer lists ps qs w e f p (i, l, next) =
    let steps : slice_index qs i ≡ slice_index ps i + 1 =
    p i l ∙ ap (λ (o : Option ℕ). step_over o (slice_index ps i) w) next
    ∙ ap (λ (b : Bool). cond b (slice_index ps i + 1) (slice_index ps i)) (eq-eqb w w refl) in
    fewer lists ps qs e f
    (λ j m. rw (p j m) (step_le (slice_get (words_at lists j) (slice_index ps j)) (slice_index ps j) w))
    i l (omega arith) (slice_get_within (words_at lists i) (slice_index ps i) w next)
