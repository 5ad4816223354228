-- Numbers in digits of a base, digit by digit.
use Rattle.std.proofs.Common.{◌≡◌, ℕ, ◌+◌, ◌*◌, ◌%◌, ◌^◌, ◌<◌, ◌≤◌, arith, refl, ap, sym, take, List, length, Some, None, Bool, true, false, ◌&&◌, nat_le, nat_lt, get_or}
use Rattle.std.specs.Char.{digit_value}
use Rattle.std.specs.Str.Parse.{digits_value, AllDigits}
use Rattle.std.proofs.lemmas.Bool.Decides.{nat_tests}
use Rattle.std.proofs.lemmas.Int.Digits.{digits_value_more}
use Rattle.std.proofs.lemmas.Str.Parse.{digits_value-take-le}
use Rattle.std.proofs.Math.Nat.{pow-le-pow_right}
use Rattle.a429_record.specs.Row.{all_digits}
use Rattle.a429_record.proofs.RowDigits.{all_digits-from}
use Rattle.a429_import.specs.Base.{number_in}

pub word_limit : (bits : ℕ) → bits ≤ 32 → 2 ^ bits ≤ 4294967296
word_limit bits h =
    let most : 2 ^ bits ≤ 2 ^ 32 = pow-le-pow_right (omega arith) h in
    omega arith

-- ---- a text that is a number, and texts that are none

pub number_in-is : (radix bits : ℕ) (text : List ℕ) (n : ℕ)
    → 1 ≤ length text → AllDigits radix text → n ≡ digits_value radix text → n < 2 ^ bits → Some n ≡ number_in radix bits text
number_in-is radix bits text n some all e small =
    let first : nat_le 1 (length text) ≡ true = grind (arith, nat_tests) in
    let below : nat_lt (digits_value radix text) (2 ^ bits) ≡ true = grind (arith, nat_tests) in
    rw (first, all_digits-from radix text all, below) (ap Some e)

last_false : (a b : Bool) → (a && b && false) ≡ false
last_false true true = refl
last_false true false = refl
last_false false b = refl

pub number_in-above : (radix bits : ℕ) (text : List ℕ) → 2 ^ bits ≤ digits_value radix text → None ≡ number_in radix bits text
number_in-above radix bits text h =
    let other : nat_lt (digits_value radix text) (2 ^ bits) ≡ false = grind (arith, nat_tests) in
    rw (other, last_false (nat_le 1 (length text)) (all_digits radix text)) refl

-- ---- digits so far

pub limit_is : (bits : ℕ) → bits ≤ 32 → 1 * 2 ^ bits % 18446744073709551616 ≡ 2 ^ bits
limit_is bits h = let most = word_limit bits h in omega arith

pub one_more : (radix : ℕ) (text : List ℕ) (i n d : ℕ) → i < length text → n ≡ digits_value radix (take i text)
    → d ≡ digit_value (get_or text i 0) → n * radix + d ≡ digits_value radix (take (i + 1) text)
one_more radix text i n d h e f = rw (e, f) (sym (digits_value_more radix text i h))

pub too_large : (radix bits : ℕ) (text : List ℕ) (i : ℕ)
    → 1 ≤ radix → 2 ^ bits ≤ digits_value radix (take i text) → None ≡ number_in radix bits text
too_large radix bits text i some h = number_in-above radix bits text (omega (arith, digits_value-take-le radix text i some))
