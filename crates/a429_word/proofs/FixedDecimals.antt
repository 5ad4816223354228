-- Decimal texts, digit by digit from their end.
use Rattle.std.proofs.Common.{◌≡◌, ◌≢◌, ℕ, zero, suc, ◌+◌, ◌*◌, ◌/◌, ◌%◌, ◌^◌, ◌<◌, ◌≤◌, List, [], ◌∷◌, ◌++◌, length, refl, sym, ap, ◌∙◌, arith, ◌⊎◌, append_assoc, length-append, append-nil, pow-suc, true, drop}
use Rattle.std.specs.Fmt.{decimal, digit_glyph}
use Rattle.std.specs.Char.{digit_value}
use Rattle.std.specs.Str.Parse.{digits_value, AllDigits}
use Rattle.std.proofs.lemmas.Bool.Decides.{nat_tests}
use Rattle.std.proofs.lemmas.Fmt.{decimal_digit, decimal_step_wide, decimal_by_steps_wide, decimal_is_IsNumeral_wide, length-decimal-le_wide}
use Rattle.std.proofs.lemmas.Int.Digits.{digits_push, digits_value_push}
use Rattle.std.proofs.lemmas.List.{drop-drop}
use Rattle.std.proofs.lemmas.Nat.{mod-mul-add, div-add-mod', pow-add}
use Rattle.std.proofs.Math.Nat.{pow-succ', div-div-eq-div-mul}
use Rattle.a429_word.specs.Digits.{numeral}
use Rattle.a429_word.specs.Fixed.{IsWholePart, EndsWell}
use Rattle.a429_word.proofs.Powers.{pow-10_pos, tens_le}
use Rattle.a429_word.proofs.DigitsFacts.{digit_glyph-low}

-- ---- as many digits as are asked for

numeral-empty : (n : ℕ) → numeral 10 zero n ≡ []
unfolding numeral
numeral-empty n = refl

-- the last digit apart
numeral-last : (k n : ℕ) → numeral 10 (suc k) n ≡ numeral 10 k (n / 10) ++ (48 + n % 10) ∷ []
unfolding numeral
numeral-last zero n =
    let low : n / 10 ^ 0 % 10 ≡ n % 10 = omega arith in
    ap (λ d. digit_glyph true d ∷ []) low ∙ ap (λ c. c ∷ []) (sym (digit_glyph-low (n % 10) (omega arith)))
numeral-last (suc k) n =
    let quotient : n / 10 ^ suc k ≡ n / 10 / 10 ^ k = ap (λ x. n / x) (pow-succ' 10 k) ∙ sym (div-div-eq-div-mul n 10 (10 ^ k)) in
    ap (λ q. digit_glyph true (q % 10) ∷ numeral 10 (suc k) n) quotient
    ∙ ap (λ t. digit_glyph true (n / 10 / 10 ^ k % 10) ∷ t) (numeral-last k n)

-- no digits
pub numeral-none : (k n : ℕ) (text : List ℕ) → k ≡ 0 → text ≡ numeral 10 k n ++ text
numeral-none k n text e = sym (ap (λ i. numeral 10 i n ++ text) e ∙ ap (λ t. t ++ text) (numeral-empty n))

-- the last digits left out, some and then more
pub quotient-more : (n i j : ℕ) → n / 10 ^ i / 10 ^ j ≡ n / 10 ^ (i + j)
quotient-more n i j = rw (pow-add 10 i j) (div-div-eq-div-mul n (10 ^ i) (10 ^ j))

-- the last digits apart
numeral-cut : (i j n : ℕ) → numeral 10 (i + j) n ≡ numeral 10 i (n / 10 ^ j) ++ numeral 10 j n
unfolding numeral
numeral-cut zero j n = let all : 0 + j ≡ j = omega arith in ap (λ k. numeral 10 k n) all
numeral-cut (suc i) j n =
    let more : suc i + j ≡ suc (i + j) = omega arith in
    let turned : i + j ≡ j + i = omega arith in
    let first : n / 10 ^ (i + j) ≡ n / 10 ^ j / 10 ^ i = ap (λ k. n / 10 ^ k) turned ∙ sym (quotient-more n j i) in
    ap (λ k. numeral 10 k n) more ∙ ap (λ q. digit_glyph true (q % 10) ∷ numeral 10 (i + j) n) first
    ∙ ap (λ t. digit_glyph true (n / 10 ^ j / 10 ^ i % 10) ∷ t) (numeral-cut i j n)

-- the last digits go in front of what is there
pub numeral-moved : (i j k n : ℕ) (text : List ℕ)
    → k ≡ i + j → numeral 10 k n ++ text ≡ numeral 10 i (n / 10 ^ j) ++ (numeral 10 j n ++ text)
numeral-moved i j k n text e =
    ap (λ m. numeral 10 m n ++ text) e ∙ ap (λ t. t ++ text) (numeral-cut i j n)
    ∙ append_assoc (numeral 10 i (n / 10 ^ j)) (numeral 10 j n) text

pub length-numeral : (k n : ℕ) → length (numeral 10 k n) ≡ k
unfolding numeral
length-numeral zero n = refl
length-numeral (suc k) n = omega (arith, length-numeral k n)

-- a digit's character stands for it
digit_is : (d : ℕ) → d < 10 → digit_value (48 + d) ≡ d
digit_is d h = grind (arith, nat_tests)

AllDigits-push : (ds : List ℕ) (n : ℕ) → AllDigits 10 ds → AllDigits 10 (ds ++ (48 + n % 10) ∷ [])
AllDigits-push ds n h =
    let small : n % 10 < 10 = omega arith in
    digits_push 10 ds (48 + n % 10) h (rw (digit_is (n % 10) small) small)

-- digits behind digits: each is one, and what they stand for together
pub AllDigits-numeral_after : (xs : List ℕ) (k n : ℕ) → AllDigits 10 xs → AllDigits 10 (xs ++ numeral 10 k n)
AllDigits-numeral_after xs zero n h = rw (numeral-empty n, append-nil) h
AllDigits-numeral_after xs (suc k) n h =
    rw (numeral-last k n, ← append_assoc xs (numeral 10 k (n / 10)) ((48 + n % 10) ∷ []))
    (AllDigits-push (xs ++ numeral 10 k (n / 10)) n (AllDigits-numeral_after xs k (n / 10) h))

mod-next : (k n : ℕ) → n % 10 ^ suc k ≡ (n / 10) % 10 ^ k * 10 + n % 10
mod-next k n =
    let p = 10 ^ k in
    let some : 0 < p = pow-10_pos k in
    let r = n / 10 % p in
    let q = n / 10 / p in
    let below : r < p = omega arith in
    let whole : n / 10 ≡ q * p + r = sym (div-add-mod' (n / 10) p) in
    let is : n ≡ q * (p * 10) + (r * 10 + n % 10) = omega arith in
    let small : r * 10 + n % 10 < p * 10 = omega arith in
    rw pow-suc (ap (λ m. m % (p * 10)) is ∙ mod-mul-add q (p * 10) (r * 10 + n % 10) small)

digits_value-push : (ds : List ℕ) (n : ℕ) → digits_value 10 (ds ++ (48 + n % 10) ∷ []) ≡ digits_value 10 ds * 10 + n % 10
digits_value-push ds n =
    let small : n % 10 < 10 = omega arith in
    digits_value_push 10 ds (48 + n % 10) ∙ ap (λ d. digits_value 10 ds * 10 + d) (digit_is (n % 10) small)

pub digits_value-numeral_after : (xs : List ℕ) (k n : ℕ) → digits_value 10 (xs ++ numeral 10 k n) ≡ digits_value 10 xs * 10 ^ k + n % 10 ^ k
digits_value-numeral_after xs zero n = rw (numeral-empty n, append-nil) (omega arith)
digits_value-numeral_after xs (suc k) n =
    rw (numeral-last k n, ← append_assoc xs (numeral 10 k (n / 10)) ((48 + n % 10) ∷ []))
    (digits_value-push (xs ++ numeral 10 k (n / 10)) n ∙ rw (digits_value-numeral_after xs k (n / 10), mod-next k n, pow-suc) (omega arith))

-- a 1 before the digits keeps the zeros that they begin with
pub one_before : (k n : ℕ) → k ≤ 18 → decimal (10 ^ k + n % 10 ^ k) ≡ 49 ∷ numeral 10 k n
one_before zero n h =
    let one : 10 ^ 0 + n % 10 ^ 0 ≡ 1 = omega arith in
    ap decimal one ∙ decimal_digit 1 (omega arith) ∙ ap (λ t. 49 ∷ t) (sym (numeral-empty n))
one_before (suc k) n h =
    let low = n / 10 % 10 ^ k in
    let some = pow-10_pos k in
    let most : 10 ^ k ≤ 10 ^ 18 = tens_le k (omega arith) in
    let below : low < 10 ^ k = omega arith in
    let is : 10 ^ suc k + n % 10 ^ suc k ≡ (10 ^ k + low) * 10 + n % 10 = rw (mod-next k n, pow-suc) (omega arith) in
    let m = (10 ^ k + low) * 10 + n % 10 in
    let front : m / 10 ≡ 10 ^ k + low = omega arith in
    let last : m % 10 ≡ n % 10 = omega arith in
    let step : decimal m ≡ decimal (m / 10) ++ (48 + m % 10) ∷ [] = decimal_step_wide m (omega arith) (omega arith) in
    ap decimal is ∙ step
    ∙ rw (front, last) (ap (λ t. t ++ (48 + n % 10) ∷ []) (one_before k (n / 10) (omega arith)) ∙ ap (λ t. 49 ∷ t) (sym (numeral-last k n)))

pub one_and_part : (k rest one part : ℕ)
    → k ≤ 18 → one ≡ 10 ^ k → part ≡ rest % one → (decimal (one + part) ≡ 49 ∷ numeral 10 k rest) × (one + part < 2 ^ 64) × (0 < one)
one_and_part k rest one part h e is =
    let most = tens_le k h in
    let some = pow-10_pos k in
    let below : rest % 10 ^ k < 10 ^ k = omega arith in
    let same : one + part ≡ 10 ^ k + rest % 10 ^ k = rw (is, e) refl in
    (ap decimal same ∙ one_before k rest h, omega arith, omega arith)

-- the text that starts behind the 1
pub behind_one : (bytes digits text : List ℕ) (start : ℕ)
    → drop start bytes ≡ (49 ∷ digits) ++ text → drop (start + 1) bytes ≡ digits ++ text
behind_one bytes digits text start e = sym (drop-drop 1 start bytes) ∙ ap (drop 1) e

-- the last digit is not 0
EndsWell-push : (cs : List ℕ) (c : ℕ) → digit_value c ≢ 0 → EndsWell (cs ++ c ∷ [])
EndsWell-push [] c h = h
EndsWell-push (d ∷ []) c h = h
EndsWell-push (d ∷ e ∷ cs) c h = EndsWell-push (e ∷ cs) c h

pub EndsWell-numeral : (k n : ℕ) → (k ≡ 0) ⊎ (n % 10 ≢ 0) → EndsWell (numeral 10 k n)
EndsWell-numeral zero n h = rw (numeral-empty n) tt
EndsWell-numeral (suc k) n h =
    let last : n % 10 ≢ 0 = omega arith in
    rw (numeral-last k n) (EndsWell-push (numeral 10 k (n / 10)) (48 + n % 10) (rw (digit_is (n % 10) (omega arith)) last))

-- ---- as many digits as are needed

-- the last digit goes in front of what stands there
pub decimal-moves : (n : ℕ) (text : List ℕ) → 10 ≤ n → n < 2 ^ 128 → decimal (n / 10) ++ ((48 + n % 10) ∷ text) ≡ decimal n ++ text
decimal-moves n text more fits =
    sym (ap (λ t. t ++ text) (decimal_step_wide n more (omega arith)) ∙ append_assoc (decimal (n / 10)) ((48 + n % 10) ∷ []) text)

pub length-decimal : (n : ℕ) → n < 2 ^ 128 → length (decimal n) ≤ 39
length-decimal n fits = length-decimal-le_wide 39 n (omega arith) (omega arith) (omega arith)

-- room for what is left of a number, and for a byte more
pub room : (n rest : ℕ) (text old : List ℕ)
    → n < 2 ^ 128 → rest ≤ n → length old ≤ 32 → decimal rest ++ text ≡ decimal n ++ old → length (decimal rest) + length text < 72
room n rest text old fits less short e =
    omega (arith, ap length e, length-decimal n fits, length-append (decimal rest) text, length-append (decimal n) old)

pub AllDigits-decimal : (n : ℕ) → n < 2 ^ 128 → AllDigits 10 (decimal n)
AllDigits-decimal n fits = (decimal_is_IsNumeral_wide n (omega arith)).0.1

pub digits_value-decimal : (n : ℕ) → n < 2 ^ 128 → digits_value 10 (decimal n) ≡ n
digits_value-decimal n fits = (decimal_is_IsNumeral_wide n (omega arith)).1

-- the first digit is not 0
abbrev BeginsWell : List ℕ → Type 0
BeginsWell [] = ⊥
BeginsWell (c ∷ cs) = digit_value c ≢ 0

BeginsWell-push : (cs : List ℕ) (c : ℕ) → BeginsWell cs → BeginsWell (cs ++ c ∷ [])
BeginsWell-push [] c h = absurd h
BeginsWell-push (d ∷ cs) c h = h

IsWhole-push : (cs : List ℕ) (c : ℕ) → BeginsWell cs → IsWholePart (cs ++ c ∷ [])
IsWhole-push [] c h = absurd h
IsWhole-push (d ∷ []) c h = h
IsWhole-push (d ∷ e ∷ cs) c h = h

pub IsWhole-decimal : (n : ℕ) → n < 2 ^ 128 → IsWholePart (decimal n)
IsWhole-decimal n fits = (decimal_by_steps_wide (λ m ds. IsWholePart ds × (0 < m → BeginsWell ds)) one more n (omega arith)).0
  where
    one : (m : ℕ) → m < 10 → IsWholePart ((48 + m) ∷ []) × (0 < m → BeginsWell ((48 + m) ∷ []))
    one m h = (tt, λ some. rw (digit_is m h) (omega arith))

    more : (m : ℕ) (ds : List ℕ) → 10 ≤ m → IsWholePart ds × (0 < m / 10 → BeginsWell ds)
        → IsWholePart (ds ++ (48 + m % 10) ∷ []) × (0 < m → BeginsWell (ds ++ (48 + m % 10) ∷ []))
    more m ds h is = let first = is.1 (omega arith) in (IsWhole-push ds (48 + m % 10) first, λ _. BeginsWell-push ds (48 + m % 10) first)
