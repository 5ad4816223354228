-- Entries again, by their keys.
use Rattle.std.proofs.Common.{◌≡◌, ℕ, zero, suc, ◌+◌, ◌-◌, ◌≤◌, ◌<◌, ◌==◌, nat_le, Bool, true, false, ◌||◌, ◌&&◌, cond, ◌⊎◌, inl, inr}
use Rattle.std.proofs.Common.{None, IsSome, List, [], ◌∷◌, refl, ap, ◌∙◌, sym, arith}
use Rattle.std.specs.declared.cmp.Ordering.{Ordering}
use Rattle.std.specs.declared.cmp.Ordering.TheVariants.{Less, Equal, Greater}
use Rattle.std.specs.Ordering.{is_eq, is_gt}
use Rattle.std.specs.BTreeMap.{BTreeMap, get}
use Rattle.std.proofs.lemmas.Bool.Decides.{nat_tests}
use Rattle.std.proofs.lemmas.Bool.{and_parts, or_right, or_left}
use Rattle.a429_word.specs.declared.bus.Bus.{Bus}
use Rattle.a429_word.specs.declared.bus.Bus.TheVariants as bus
use Rattle.a429_record.specs.declared.entry.Entry.{Entry}
use Rattle.a429_import.specs.declared.sort_key.SortKey.{SortKey}
use Rattle.a429_import.specs.SortKey.{earliest, entry_of, key_of, line_of, is_on_b}
use Rattle.a429_import.specs.KeyCounts.{AreCounted, by_key, some_times, times_in}
use Rattle.a429_import.specs.Repeats.{is_again, is_repeat, is_same_line}
use Rattle.a429_import.proofs.KeyCountsFacts.{times_in-cons}
use Rattle.a429_import.proofs.SortKeyFacts.{key_between, key_from, same_key, same_keys}

line_back : (b : Bus) → line_of (is_on_b b) ≡ b
line_back bus.A = refl
line_back bus.B = refl

entry_back : (e : Entry) → entry_of (key_of e) ≡ e
entry_back e = ap (λ (b : Bus). record { time = e.time; bus = b; word = e.word }) (line_back e.bus)

-- where a key of some entry is of one that comes again, it does
is_among : (w : ℕ) (e : Entry) (es : List Entry) (k : SortKey) → is_again w e (entry_of k) ≡ true → 0 < times_in es k
    → is_repeat w es e ≡ true
is_among w e [] k again h = absurd (omega arith)
is_among w e (x ∷ es) k again h = by (by_key (key_of x) k) refl (is_among w e es k again)
  where
    fewer : (o : Ordering) → by_key (key_of x) k ≡ o → 0 < cond (is_eq o) 1 0 + times_in es k
    fewer o is = rw (times_in-cons, is) at h

    by : (o : Ordering) → by_key (key_of x) k ≡ o → (0 < times_in es k → is_repeat w es e ≡ true)
        → (is_again w e x || is_repeat w es e) ≡ true
    by Less is more = or_right (is_again w e x) _ (more (omega (arith, fewer Less is)))
    by Equal is more = or_left _ _ (ap (is_again w e) (sym (entry_back x) ∙ ap entry_of (same_keys (key_of x) k is)) ∙ again)
    by Greater is more = or_right (is_again w e x) _ (more (omega (arith, fewer Greater is)))

-- where no entry has such a key, it does not
is_not_among : (w : ℕ) (e : Entry) (es : List Entry) → ((k : SortKey) → is_again w e (entry_of k) ≡ true → times_in es k ≡ 0)
    → is_repeat w es e ≡ false
is_not_among w e [] h = refl
is_not_among w e (x ∷ es) h =
    by (is_again w e x) refl (is_not_among w e es (λ k again. omega (arith, h k again, times_in-cons x es k)))
  where
    by : (b : Bool) → is_again w e x ≡ b → is_repeat w es e ≡ false → (is_again w e x || is_repeat w es e) ≡ false
    by true is more =
        let none = h (key_of x) (ap (is_again w e) (entry_back x) ∙ is) in
        let one = times_in-cons x es (key_of x) ∙ ap (λ o. cond (is_eq o) 1 0 + times_in es (key_of x)) (same_key (key_of x)) in
        absurd (omega (arith, none, one))
    by false is more = rw is more

-- ---- the first key from the least one on decides

same_line : (b : Bus) (c : Bool) → is_same_line b (line_of c) ≡ true → is_on_b b ≡ c
same_line bus.A true h = absurd (cc h)
same_line bus.A false h = refl
same_line bus.B true h = refl
same_line bus.B false h = absurd (cc h)

line_same : (b : Bus) (c : Bool) → is_on_b b ≡ c → is_same_line b (line_of c) ≡ true
line_same bus.A true h = absurd (cc h)
line_same bus.A false h = refl
line_same bus.B true h = refl
line_same bus.B false h = absurd (cc h)

numbers_say : (u v w d : ℕ) → (u == v) ≡ true → nat_le d w ≡ true → (u ≡ v) × (d ≤ w)
numbers_say u v w d h k = (grind (arith, nat_tests), grind (arith, nat_tests))

again_says : (w : ℕ) (e : Entry) (k : SortKey) → is_again w e (entry_of k) ≡ true
    → (is_on_b e.bus ≡ k.is_on_b) × (e.word ≡ k.word) × (e.time - k.time ≤ w) × (k.time - e.time ≤ w)
again_says w e k h =
    let line = and_parts (is_same_line e.bus (line_of k.is_on_b)) _ h in
    let word = and_parts (e.word == k.word) _ line.1 in
    let time = and_parts (nat_le (e.time - k.time) w) _ word.1 in
    let before = numbers_say e.word k.word w (e.time - k.time) word.0 time.0 in
    (same_line e.bus k.is_on_b line.0, before.0, before.1, (numbers_say e.word k.word w (k.time - e.time) word.0 time.1).1)

again_where : (w : ℕ) (e : Entry) (k : SortKey) → is_on_b e.bus ≡ k.is_on_b → e.word ≡ k.word → e.time - k.time ≤ w → k.time - e.time ≤ w
    → is_again w e (entry_of k) ≡ true
again_where w e k line word before after =
    rw (line_same e.bus k.is_on_b line)
    (numbers_are e.word k.word w (e.time - k.time) (k.time - e.time) word before after)
  where
    numbers_are : (u v w d f : ℕ) → u ≡ v → d ≤ w → f ≤ w → ((u == v) && (nat_le d w && nat_le f w)) ≡ true
    numbers_are u v w d f h k l = grind (arith, nat_tests)

again_from : (w : ℕ) (e : Entry) (k : SortKey) → is_again w e (entry_of k) ≡ true → is_gt (by_key (earliest w e) k) ≡ false
again_from w e k h =
    let says = again_says w e k h in
    key_from (earliest w e) k says.0 says.1 (omega arith)

-- the keys from the least one up to one of an entry that comes again are of such entries too
again_before : (w : ℕ) (e : Entry) (k q : SortKey) → is_gt (by_key (earliest w e) k) ≡ false → is_gt (by_key k q) ≡ false
    → is_again w e (entry_of q) ≡ true → is_again w e (entry_of k) ≡ true
again_before w e k q from upto h =
    let says = again_says w e q h in
    let is = key_between (earliest w e) k q from upto says.0 says.1 in
    again_where w e k is.0 is.1 (omega arith) (omega arith)

none_counted : (n : ℕ) → some_times n ≡ None → n ≡ 0
none_counted zero h = refl
none_counted (suc n) h = absurd (cc h)

counted : (n : ℕ) → IsSome (some_times n) → 0 < n
counted zero h = absurd (cc h)
counted (suc n) h = omega arith

some_or_none : (n : ℕ) → (n ≡ 0) ⊎ IsSome (some_times n)
some_or_none zero = inl refl
some_or_none (suc n) = inr refl

pub first_is_again : (w : ℕ) (e : Entry) (m : BTreeMap SortKey ℕ) (es : List Entry) (k : SortKey) → AreCounted m es
    → is_gt (by_key (earliest w e) k) ≡ false → IsSome (get by_key m k)
    → ((q : SortKey) → is_gt (by_key (earliest w e) q) ≡ false → IsSome (get by_key m q) → is_gt (by_key k q) ≡ false)
    → is_again w e (entry_of k) ≡ is_repeat w es e
first_is_again w e m es k h from some least = by (is_again w e (entry_of k)) refl
  where
    by : (b : Bool) → is_again w e (entry_of k) ≡ b → b ≡ is_repeat w es e
    by true is = sym (is_among w e es k is (counted (times_in es k) (rw (h k) at some)))
    by false is = sym (is_not_among w e es none)
      where
        none : (q : SortKey) → is_again w e (entry_of q) ≡ true → times_in es q ≡ 0
        none q again = elim (some_or_none (times_in es q)) [
          | inl zero_is ↦ zero_is
          | inr there ↦ absurd (cc (is, again_before w e k q from (least q (again_from w e q again) (rw (← h q) at there)) again))
        ]

pub none_is_again : (w : ℕ) (e : Entry) (m : BTreeMap SortKey ℕ) (es : List Entry) → AreCounted m es
    → ((q : SortKey) → is_gt (by_key (earliest w e) q) ≡ false → get by_key m q ≡ None) → false ≡ is_repeat w es e
none_is_again w e m es h none =
    sym (is_not_among w e es (λ q again. none_counted (times_in es q) (sym (h q) ∙ none q (again_from w e q again))))
