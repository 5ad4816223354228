-- The order of the keys.
use Rattle.std.proofs.Common.{◌≡◌, ℕ, ◌≤◌, Bool, true, false, refl, ap, ◌∙◌, sym, arith, le_antisymm}
use Rattle.std.specs.declared.cmp.Ordering.{Ordering}
use Rattle.std.specs.declared.cmp.Ordering.TheVariants.{Less, Equal, Greater}
use Rattle.std.specs.Ordering.{bool_cmp, nat_cmp, ordering_then, is_gt}
use Rattle.std.proofs.lemmas.Cmp.{nat_cmp_total, tied_itself}
use Rattle.std.proofs.lemmas.Bool.Decides.{nat_tests}
use Rattle.std.proofs.lemmas.Map.Lookups.{exact_unsigned}
use Rattle.std.proofs.lemmas.Map.Keys.{le_from_not_gt}
use Rattle.a429_import.specs.declared.sort_key.SortKey.{SortKey}
use Rattle.a429_import.specs.KeyCounts.{by_key}

-- two answers, of which the second counts where the first is `Equal`
both_equal : (o p : Ordering) → ordering_then o p ≡ Equal → (o ≡ Equal) × (p ≡ Equal)
both_equal Less p h = absurd (cc h)
both_equal Equal p h = (refl, h)
both_equal Greater p h = absurd (cc h)

then_equal : (o p : Ordering) → o ≡ Equal → p ≡ Equal → ordering_then o p ≡ Equal
then_equal o p e f = rw e f

first_not_gt : (o p : Ordering) → is_gt (ordering_then o p) ≡ false → is_gt o ≡ false
first_not_gt Less p h = refl
first_not_gt Equal p h = refl
first_not_gt Greater p h = h

second_not_gt : (o p : Ordering) → o ≡ Equal → is_gt (ordering_then o p) ≡ false → is_gt p ≡ false
second_not_gt o p e h = rw e at h

-- ---- the same key

same_bools : (a b : Bool) → bool_cmp a b ≡ Equal → a ≡ b
same_bools false false h = refl
same_bools false true h = absurd (cc h)
same_bools true false h = absurd (cc h)
same_bools true true h = refl

alike : (a b : Bool) (u v s t : ℕ) → a ≡ b → u ≡ v → s ≡ t
    → ◌≡◌ {A = SortKey} (record { is_on_b = a; word = u; time = s }) (record { is_on_b = b; word = v; time = t })
alike a b u v s t e f g = cc

-- keys that the order does not tell apart are the same
pub same_keys : (a b : SortKey) → by_key a b ≡ Equal → a ≡ b
same_keys a b h =
    let first = both_equal (bool_cmp a.is_on_b b.is_on_b) _ h in
    let rest = both_equal (nat_cmp a.word b.word) (nat_cmp a.time b.time) first.1 in
    alike _ _ _ _ _ _ (same_bools a.is_on_b b.is_on_b first.0) (exact_unsigned a.word b.word rest.0) (exact_unsigned a.time b.time rest.1)

bool_itself : (a : Bool) → bool_cmp a a ≡ Equal
bool_itself false = refl
bool_itself true = refl

pub same_key : (a : SortKey) → by_key a a ≡ Equal
same_key a =
    then_equal (bool_cmp a.is_on_b a.is_on_b) _ (bool_itself a.is_on_b)
    (then_equal (nat_cmp a.word a.word) (nat_cmp a.time a.time) (tied_itself nat_cmp_total a.word) (tied_itself nat_cmp_total a.time))

-- ---- a key between two others of one line and word

bools_between : (a b : Bool) → is_gt (bool_cmp a b) ≡ false → is_gt (bool_cmp b a) ≡ false → bool_cmp a b ≡ Equal
bools_between false false h k = refl
bools_between false true h k = absurd (cc k)
bools_between true false h k = absurd (cc h)
bools_between true true h k = refl

between : (a b : Bool) (u v s t r : ℕ)
    → is_gt (ordering_then (bool_cmp a b) (ordering_then (nat_cmp u v) (nat_cmp s t))) ≡ false
    → is_gt (ordering_then (bool_cmp b a) (ordering_then (nat_cmp v u) (nat_cmp t r))) ≡ false
    → (a ≡ b) × (u ≡ v) × (s ≤ t) × (t ≤ r)
between a b u v s t r h k =
    let line = bools_between a b (first_not_gt (bool_cmp a b) _ h) (first_not_gt (bool_cmp b a) _ k) in
    let a_is_b = same_bools a b line in
    let back = ap (λ c. bool_cmp c a) (sym a_is_b) ∙ bool_itself a in
    let more = second_not_gt (bool_cmp a b) _ line h in
    let less = second_not_gt (bool_cmp b a) _ back k in
    let word =
    le_antisymm (le_from_not_gt u v (first_not_gt (nat_cmp u v) _ more)) (le_from_not_gt v u (first_not_gt (nat_cmp v u) _ less)) in
    let tied = ap (nat_cmp u) (sym word) ∙ tied_itself nat_cmp_total u in
    let tied_back = ap (λ n. nat_cmp n u) (sym word) ∙ tied_itself nat_cmp_total u in
    let from = le_from_not_gt s t (second_not_gt (nat_cmp u v) _ tied more) in
    (a_is_b, word, from, le_from_not_gt t r (second_not_gt (nat_cmp v u) _ tied_back less))

-- a key from one on and up to another, which are of one line and word
pub key_between : (low k high : SortKey) → is_gt (by_key low k) ≡ false → is_gt (by_key k high) ≡ false
    → low.is_on_b ≡ high.is_on_b → low.word ≡ high.word
    → (low.is_on_b ≡ k.is_on_b) × (low.word ≡ k.word) × (low.time ≤ k.time) × (k.time ≤ high.time)
key_between low k high from upto line word =
    between low.is_on_b k.is_on_b low.word k.word low.time k.time high.time from (rw (← line, ← word) at upto)

not_gt : (s t : ℕ) → s ≤ t → is_gt (nat_cmp s t) ≡ false
not_gt s t h = grind (arith, nat_tests)

both_not_gt : (o p : Ordering) → o ≡ Equal → is_gt p ≡ false → is_gt (ordering_then o p) ≡ false
both_not_gt o p e h = rw e h

-- a key of one line and word comes after those with earlier times
pub key_from : (low k : SortKey) → low.is_on_b ≡ k.is_on_b → low.word ≡ k.word → low.time ≤ k.time → is_gt (by_key low k) ≡ false
key_from low k line word time =
    let same_line = ap (bool_cmp low.is_on_b) (sym line) ∙ bool_itself low.is_on_b in
    let same_word = ap (nat_cmp low.word) (sym word) ∙ tied_itself nat_cmp_total low.word in
    both_not_gt (bool_cmp low.is_on_b k.is_on_b) _ same_line
    (both_not_gt (nat_cmp low.word k.word) (nat_cmp low.time k.time) same_word (not_gt low.time k.time time))
