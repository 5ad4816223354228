-- Texts of digits, and the numbers that they name.
use Rattle.std.proofs.Common.{◌≡◌, ℕ, ◌^◌, ◌<◌, ◌≤◌, arith, refl, ap, List, [], ◌∷◌, length, take, Option, Some, None, Bool, true, false, ◌&&◌, ◌==◌, nat_le, nat_lt, eq-eqb, get_or, zero, suc, sym, ◌∙◌, ◌+◌, ◌*◌}
use Rattle.std.specs.Char.{digit_value}
use Rattle.std.specs.Str.Parse.{digits_value, AllDigits}
use Rattle.std.specs.List.{list_all}
use Rattle.std.proofs.lemmas.Bool.{and_parts, false_from_ne_true}
use Rattle.std.proofs.lemmas.Bool.Decides.{nat_tests}
use Rattle.std.specs.Option.{SomeIff}
use Rattle.std.proofs.lemmas.Int.Digits.{digits_value-lt, digits_value_more, digits_more}
use Rattle.std.proofs.lemmas.List.{length-take-le, take_all}
use Rattle.std.proofs.Math.Nat.{pow-le-pow_right}
use Rattle.a429_word.specs.Digits.{ReadsHex}
use Rattle.a429_record.specs.Row.{all_digits, time_in, word_in}

digit_test : (base b : ℕ) → digit_value b < base → nat_lt (digit_value b) base ≡ true
digit_test base b h = grind (arith, nat_tests)

digit_known : (base b : ℕ) → nat_lt (digit_value b) base ≡ true → digit_value b < base
digit_known base b h = grind (arith, nat_tests)

pub all_digits-from : (base : ℕ) (text : List ℕ) → AllDigits base text → all_digits base text ≡ true
all_digits-from base [] h = refl
all_digits-from base (b ∷ bs) h = rw (digit_test base b h.0) (all_digits-from base bs h.1)

pub all_digits-to : (base : ℕ) (text : List ℕ) → all_digits base text ≡ true → AllDigits base text
all_digits-to base [] h = tt
all_digits-to base (b ∷ bs) h =
    let (here, more) = and_parts (nat_lt (digit_value b) base) (list_all (λ c. nat_lt (digit_value c) base) bs) h in
    (digit_known base b here, all_digits-to base bs more)

-- what a test of eight hexadecimal digits gives
pub word_in-reads : (text : List ℕ) (read : Option ℕ) → ReadsHex text read → read ≡ word_in text
word_in-reads text (Some w) h =
    let long = eq-eqb (length text) 8 h.0.0 in
    rw (long, all_digits-from 16 text h.0.1) (ap Some h.1)
word_in-reads text None h =
    let other = false_from_ne_true (length text == 8 && all_digits 16 text) (λ e.
    let (long, all) = and_parts (length text == 8) (all_digits 16 text) e in
    h (grind (arith, nat_tests), all_digits-to 16 text all)) in
    rw other refl

-- eighteen digits leave room for one more
pub room : (i n : ℕ) (text : List ℕ)
    → i ≤ length text → i ≤ 18 → n ≡ digits_value 10 (take i text) → AllDigits 10 (take i text) → n < 10 ^ 18
room i n text h few e all =
    let short = length-take-le i text (omega arith) in
    let below = digits_value-lt 10 (take i text) all in
    let most : 10 ^ i ≤ 10 ^ 18 = pow-le-pow_right (omega arith) few in
    let under : digits_value 10 (take i text) < 10 ^ i = rw short at below in
    omega arith

pub not_a_digit : (text : List ℕ) (i : ℕ) → i < length text → 10 ≤ digit_value (get_or text i 0) → AllDigits 10 text → ⊥
not_a_digit [] i h large all = omega arith
not_a_digit (b ∷ bs) zero h large all = omega (arith, all.0)
not_a_digit (b ∷ bs) (suc i) h large all = not_a_digit bs i (omega arith) large all.1

pub AllDigits-take : (text : List ℕ) (i : ℕ) → AllDigits 10 text → AllDigits 10 (take i text)
AllDigits-take text zero all = tt
AllDigits-take [] (suc i) all = tt
AllDigits-take (b ∷ bs) (suc i) all = (all.0, AllDigits-take bs i all.1)

-- a text that is a time
pub time_in-is : (text : List ℕ) (n : ℕ) → 1 ≤ length text → length text ≤ 20 → AllDigits 10 text → n ≡ digits_value 10 text → n < 2 ^ 64
    → Some n ≡ time_in text
time_in-is text n least most all e small =
    let first : nat_le 1 (length text) ≡ true = grind (arith, nat_tests) in
    let second : nat_le (length text) 20 ≡ true = grind (arith, nat_tests) in
    let below : nat_lt (digits_value 10 text) (2 ^ 64) ≡ true = grind (arith, nat_tests) in
    rw (first, second, all_digits-from 10 text all, below) (ap Some e)

-- texts that are no time: not all is a digit, or the number is too large
third_false : (a b d : Bool) → (a && b && false && d) ≡ false
third_false true true d = refl
third_false true false d = refl
third_false false b d = refl

last_false : (a b c : Bool) → (a && b && c && false) ≡ false
last_false true true true = refl
last_false true true false = refl
last_false true false c = refl
last_false false b c = refl

pub not_all-time_in : (text : List ℕ) → (AllDigits 10 text → ⊥) → None ≡ time_in text
not_all-time_in text h =
    let other : all_digits 10 text ≡ false = false_from_ne_true (all_digits 10 text) (λ e. h (all_digits-to 10 text e)) in
    rw (other, third_false (nat_le 1 (length text)) (nat_le (length text) 20) (nat_lt (digits_value 10 text) (2 ^ 64))) refl

pub above-time_in : (text : List ℕ) → 2 ^ 64 ≤ digits_value 10 text → None ≡ time_in text
above-time_in text h =
    let other : nat_lt (digits_value 10 text) (2 ^ 64) ≡ false = grind (arith, nat_tests) in
    rw (other, last_false (nat_le 1 (length text)) (nat_le (length text) 20) (all_digits 10 text)) refl

-- ---- a text of some digits and one more

value_is : (text : List ℕ) (i : ℕ)
    → length text ≡ i + 1 → digits_value 10 text ≡ digits_value 10 (take i text) * 10 + digit_value (get_or text i 0)
value_is text i long = ap (digits_value 10) (sym (take_all (i + 1) text (omega arith))) ∙ digits_value_more 10 text i (omega arith)

pub not_front-time_in : (text : List ℕ) (i : ℕ) → (AllDigits 10 (take i text) → ⊥) → None ≡ time_in text
not_front-time_in text i h = not_all-time_in text (λ all. h (AllDigits-take text i all))

pub front_above-time_in : (text : List ℕ) (i n : ℕ)
    → length text ≡ i + 1 → n ≡ digits_value 10 (take i text) → (n * 10 < 2 ^ 64 → ⊥) → None ≡ time_in text
front_above-time_in text i n long e h = above-time_in text (omega (arith, value_is text i long))

pub sum-time_in : (text : List ℕ) (i n d : ℕ) (r : Option ℕ) → length text ≡ i + 1 → i ≤ 19 → AllDigits 10 (take i text)
    → n ≡ digits_value 10 (take i text) → d < 10 → d ≡ digit_value (get_or text i 0)
    → SomeIff r (n * 10 + d < 2 ^ 64) (n * 10 + d) → r ≡ time_in text
sum-time_in text i n d None long few all e small is h = above-time_in text (omega (arith, value_is text i long))
sum-time_in text i n d (Some x) long few all e small is h =
    let inside : i < length text = omega arith in
    let each = digits_more 10 text i inside all (rw (← is) small) in
    ap Some h.1 ∙ time_in-is text (n * 10 + d) (omega arith) (omega arith) (rw (take_all (i + 1) text (omega arith)) at each)
    (omega (arith, value_is text i long)) h.0
