-- Digits, and the numbers that they write.
use Rattle.std.proofs.Common.{◌≡◌, ◌&&◌, Bool, Option, nat_lt, ◌∙◌, ◌+◌, ◌-◌, ◌*◌, ◌/◌, ◌%◌, ◌^◌, ◌<◌, ◌≤◌, ℕ, zero, suc, List, [], ◌∷◌, length, take, drop, zero-add, get_or, Some, None, true, false, refl, sym, ap, arith, pow-suc}
use Rattle.std.specs.Char.{digit_value}
use Rattle.std.specs.Fmt.{digit_glyph}
use Rattle.std.specs.List.{list_all}
use Rattle.std.specs.Str.Parse.{digits_value, digits_value_after, AllDigits}
use Rattle.std.proofs.lemmas.Bool.{and_parts}
use Rattle.std.proofs.lemmas.Bool.Decides.{nat_tests}
use Rattle.std.proofs.lemmas.Int.Digits.{digits_value-lt, digits_value_more}
use Rattle.std.proofs.lemmas.Nat.{div-add-mod', mod-mul-add, div-mul-add, mul-add-lt}
use Rattle.std.proofs.lemmas.List.{length-take-le, take_all}
use Rattle.std.proofs.lemmas.List.Folds.{list_all_at, list_all_more}
use Rattle.std.proofs.Math.Nat.{mod-eq_of_lt, pow-le-pow_right}
use Rattle.a429_word.specs.Digits.{numeral, hex_text, IsHexWord, ReadsHex}
use Rattle.a429_word.proofs.DigitsFacts.{digit_value-digit_glyph}
use Rattle.a429_word.proofs.Powers.{pow-16_pos}
use Rattle.a429_cert.specs.Field.{hex_digits_in, hex_digit_in, is_digit, is_not_lower, when}
use Rattle.a429_cert.proofs.Options.{when_some, when_none}

-- ---- one digit

pub is_digit-value : (base b : ℕ) → is_digit base b ≡ true → digit_value b < base
is_digit-value base b h = grind (arith, nat_tests)

-- a digit of a base up to 16 is the one character of its value
glyph-value : (b : ℕ) → is_digit 16 b ≡ true → digit_glyph true (digit_value b) ≡ b
glyph-value b h = grind (arith, nat_tests)

is_digit-glyph : (d : ℕ) → d < 16 → is_digit 16 (digit_glyph true d) ≡ true
is_digit-glyph d h = grind (arith, nat_tests)

digit-upper : (b : ℕ) → is_not_lower b ≡ true → digit_value b < 16 → is_digit 16 b ≡ true
digit-upper b up h = grind (arith, nat_tests)

decimal_digit : (b : ℕ) → digit_value b < 10 → is_digit 10 b ≡ true
decimal_digit b h = grind (arith, nat_tests)

-- ---- texts of digits

pub AllDigits-from : (base : ℕ) (text : List ℕ) → list_all (is_digit base) text ≡ true → AllDigits base text
AllDigits-from base [] h = tt
AllDigits-from base (b ∷ bs) h =
    let (here, more) = and_parts (is_digit base b) (list_all (is_digit base) bs) h in
    (is_digit-value base b here, AllDigits-from base bs more)

pub decimal_digits : (text : List ℕ) → AllDigits 10 text → list_all (is_digit 10) text ≡ true
decimal_digits [] h = refl
decimal_digits (b ∷ bs) h = rw (decimal_digit b h.0) (decimal_digits bs h.1)

-- the first digit counts most
digits_after : (n : ℕ) (ds : List ℕ) → digits_value_after 16 n ds ≡ n * 16 ^ length ds + digits_value 16 ds
digits_after n [] = omega arith
digits_after n (d ∷ ds) =
    let p = 16 ^ length ds in
    digits_after (n * 16 + digit_value d) ds
    ∙ rw (digits_after (0 * 16 + digit_value d) ds, pow-suc) (omega arith)

first-digit : (d : ℕ) (ds : List ℕ) → digits_value 16 (d ∷ ds) ≡ digit_value d * 16 ^ length ds + digits_value 16 ds
first-digit d ds = digits_after (0 * 16 + digit_value d) ds ∙ omega arith

-- ---- so many hexadecimal digits

pub length-numeral : (k n : ℕ) → length (numeral 16 k n) ≡ k
unfolding numeral
length-numeral zero n = refl
length-numeral (suc k) n = omega (arith, length-numeral k n)

pub digits-numeral : (k n : ℕ) → list_all (is_digit 16) (numeral 16 k n) ≡ true
unfolding numeral
digits-numeral zero n = refl
digits-numeral (suc k) n = rw (is_digit-glyph (n / 16 ^ k % 16) (omega arith)) (digits-numeral k n)

-- the digit that counts 16 ^ k, and those behind it
mod-next : (k n : ℕ) → n % 16 ^ suc k ≡ n / 16 ^ k % 16 * 16 ^ k + n % 16 ^ k
mod-next k n =
    let p = 16 ^ k in
    let some : 0 < p = pow-16_pos k in
    let q = n / p in
    let r = n % p in
    let e = q / 16 in
    let d = q % 16 in
    let below : r < p = omega arith in
    let whole : n ≡ q * p + r = sym (div-add-mod' n p) in
    let high : q ≡ e * 16 + d = omega arith in
    let is : n ≡ e * (p * 16) + (d * p + r) = whole ∙ ap (λ x. x * p + r) high ∙ omega arith in
    let small : d * p + r < p * 16 = mul-add-lt d p r 16 (omega arith) below in
    rw pow-suc (ap (λ m. m % (p * 16)) is ∙ mod-mul-add e (p * 16) (d * p + r) small)

pub value-numeral : (k n : ℕ) → digits_value 16 (numeral 16 k n) ≡ n % 16 ^ k
unfolding numeral
value-numeral zero n = omega arith
value-numeral (suc k) n =
    let d = n / 16 ^ k % 16 in
    let small : d < 16 = omega arith in
    first-digit (digit_glyph true d) (numeral 16 k n)
    ∙ rw (digit_value-digit_glyph d small, length-numeral k n, value-numeral k n) (sym (mod-next k n))

-- digits of one value are the same
pub same-digits : (xs ys : List ℕ) → length xs ≡ length ys → list_all (is_digit 16) xs ≡ true → list_all (is_digit 16) ys ≡ true
    → digits_value 16 xs ≡ digits_value 16 ys → xs ≡ ys
same-digits [] [] len hx hy e = refl
same-digits [] (y ∷ ys) len hx hy e = absurd (omega arith)
same-digits (x ∷ xs) [] len hx hy e = absurd (omega arith)
same-digits (x ∷ xs) (y ∷ ys) len hx hy e =
    let px = and_parts (is_digit 16 x) (list_all (is_digit 16) xs) hx in
    let py = and_parts (is_digit 16 y) (list_all (is_digit 16) ys) hy in
    let p = 16 ^ length ys in
    let tail : length xs ≡ length ys = omega arith in
    let low_x : digits_value 16 xs < p = rw (← tail) (digits_value-lt 16 xs (AllDigits-from 16 xs px.1)) in
    let low_y : digits_value 16 ys < p = digits_value-lt 16 ys (AllDigits-from 16 ys py.1) in
    let value_x : digits_value 16 (x ∷ xs) ≡ digit_value x * p + digits_value 16 xs =
    first-digit x xs ∙ ap (λ k. digit_value x * 16 ^ k + digits_value 16 xs) tail in
    let values : digit_value x * p + digits_value 16 xs ≡ digit_value y * p + digits_value 16 ys = sym value_x ∙ e ∙ first-digit y ys in
    let heads : digit_value x ≡ digit_value y =
    sym (div-mul-add (digit_value x) p (digits_value 16 xs) low_x) ∙ ap (λ n. n / p) values
    ∙ div-mul-add (digit_value y) p (digits_value 16 ys) low_y in
    let tails : digits_value 16 xs ≡ digits_value 16 ys =
    sym (mod-mul-add (digit_value x) p (digits_value 16 xs) low_x) ∙ ap (λ n. n % p) values
    ∙ mod-mul-add (digit_value y) p (digits_value 16 ys) low_y in
    let same : x ≡ y = sym (glyph-value x px.0) ∙ ap (digit_glyph true) heads ∙ glyph-value y py.0 in
    ap (λ c. c ∷ xs) same ∙ ap (λ cs. y ∷ cs) (same-digits xs ys tail px.1 py.1 tails)

-- digits are the numeral of their value
pub numeral-value : (text : List ℕ) → list_all (is_digit 16) text ≡ true → text ≡ numeral 16 (length text) (digits_value 16 text)
numeral-value text all =
    let k = length text in
    let n = digits_value 16 text in
    let small : n < 16 ^ k = digits_value-lt 16 text (AllDigits-from 16 text all) in
    let value : digits_value 16 (numeral 16 k n) ≡ n = value-numeral k n ∙ mod-eq_of_lt small in
    same-digits text (numeral 16 k n) (sym (length-numeral k n)) all (digits-numeral k n) (sym value)

-- ---- the loop over digits

-- n is what the first i bytes write, each of which is a digit
pub record IsRead (i n : ℕ) (text : List ℕ) : Type 0 where
  pub value : n ≡ digits_value 16 (take i text)
  pub digits : list_all (is_digit 16) (take i text) ≡ true

digit-some : (b d : ℕ) → Some d ≡ hex_digit_in b → (is_digit 16 b ≡ true) × (digit_value b ≡ d)
digit-some b d e = when_some (is_digit 16 b) (digit_value b) d (sym e)

pub digit-small : (b d : ℕ) → Some d ≡ hex_digit_in b → d < 16
digit-small b d e =
    let is = digit-some b d e in
    rw (← is.1) (is_digit-value 16 b is.0)

pub read-more : (i n d : ℕ) (text : List ℕ)
    → i < length text → IsRead i n text → Some d ≡ hex_digit_in (get_or text i 0) → IsRead (i + 1) (n * 16 + d) text
read-more i n d text h read e =
    let is = digit-some (get_or text i 0) d e in
    record {
      value = rw (read.value, ← is.1) (sym (digits_value_more 16 text i h));
      digits = list_all_more (is_digit 16) text i 0 h ∙ rw (read.digits, is.0) refl;
    }

-- at most seven digits leave room for one more
pub read-room : (i n : ℕ) (text : List ℕ) → i < length text → length text ≤ 8 → IsRead i n text → n < 268435456
read-room i n text h long read =
    let short = length-take-le i text (omega arith) in
    let few : i ≤ 7 = omega arith in
    let below = digits_value-lt 16 (take i text) (AllDigits-from 16 (take i text) read.digits) in
    let under : n < 16 ^ i = rw short at (rw (← read.value) at below) in
    let most_digits : 16 ^ i ≤ 16 ^ 7 = pow-le-pow_right (omega arith) few in
    omega arith

digit-none : (b : ℕ) → None ≡ hex_digit_in b → is_digit 16 b ≡ false
digit-none b e = when_none (is_digit 16 b) (digit_value b) (sym e)

-- a byte that is no digit
pub read-stops : (i : ℕ) (text : List ℕ) → i < length text → None ≡ hex_digit_in (get_or text i 0) → None ≡ hex_digits_in text
unfolding hex_digits_in
read-stops i text h e = rw (list_all_at (is_digit 16) text i 0 h (digit-none (get_or text i 0) e)) refl

-- all digits
pub read-all : (i n : ℕ) (text : List ℕ) → length text ≤ i → IsRead i n text → Some n ≡ hex_digits_in text
unfolding hex_digits_in
read-all i n text h read =
    let whole = take_all i text h in
    rw (rw whole at read.digits, rw whole at read.value) refl

pub read-small : (i n : ℕ) (text : List ℕ) → length text ≤ i → IsRead i n text → n < 16 ^ length text
read-small i n text h read =
    let whole = take_all i text h in
    rw (rw whole at read.value) (digits_value-lt 16 text (AllDigits-from 16 text (rw whole at read.digits)))

-- ---- the eight digits of a word

digits-upper : (text : List ℕ) → list_all is_not_lower text ≡ true → AllDigits 16 text → list_all (is_digit 16) text ≡ true
digits-upper [] up all = refl
digits-upper (b ∷ bs) up all =
    let (here, more) = and_parts (is_not_lower b) (list_all is_not_lower bs) up in
    rw (digit-upper b here all.0) (digits-upper bs more all.1)

no-word : (text : List ℕ) (all : Bool)
    → list_all (is_digit 16) text ≡ all → length text ≡ 8 → ¬ IsHexWord text → None ≡ when all (digits_value 16 text)
no-word text true e len none = absurd (none (len, AllDigits-from 16 text e))
no-word text false e len none = refl

-- a word of eight digits, none of them a letter in lower case
pub word-upper : (text : List ℕ) (read : Option ℕ)
    → length text ≡ 8 → list_all is_not_lower text ≡ true → ReadsHex text read → read ≡ hex_digits_in text
unfolding hex_digits_in
word-upper text (Some w) len up reads = rw (digits-upper text up reads.0.1, reads.1) refl
word-upper text None len up reads = no-word text (list_all (is_digit 16) text) refl len reads

no-digit : (upper digit : Bool) (more all : Bool) → (upper && more) ≡ false → (more ≡ false → all ≡ false) → (upper && digit && all) ≡ false
no-digit false digit more all e h = refl
no-digit true true more all e h = h e
no-digit true false more all e h = refl

-- a letter in lower case is no digit
pub lower-none : (text : List ℕ) → list_all is_not_lower text ≡ false → list_all (is_digit 16) text ≡ false
lower-none [] e = absurd cc
lower-none (b ∷ bs) e =
    no-digit (is_not_lower b) (nat_lt (digit_value b) 16) (list_all is_not_lower bs) (list_all (is_digit 16) bs) e (lower-none bs)

pub word-lower : (text : List ℕ) → list_all is_not_lower text ≡ false → None ≡ hex_digits_in text
unfolding hex_digits_in
word-lower text e = rw (lower-none text e) refl

-- ---- the last digits of a word

drop-numeral : (j k n : ℕ) → drop j (numeral 16 (j + k) n) ≡ numeral 16 k n
unfolding numeral
drop-numeral zero k n = ap (λ i. numeral 16 i n) (zero-add k)
drop-numeral (suc j) k n =
    let up : suc j + k ≡ suc (j + k) = omega arith in
    ap (λ i. drop (suc j) (numeral 16 i n)) up ∙ drop-numeral j k n

pub last-digits : (k n : ℕ) → k ≤ 8 → take (8 - (8 - k)) (drop (8 - k) (hex_text n)) ≡ numeral 16 k n
last-digits k n h =
    let e : 8 ≡ 8 - k + k = omega arith in
    let all : length (numeral 16 k n) ≤ 8 - (8 - k) = omega (arith, length-numeral k n) in
    ap (λ i. take (8 - (8 - k)) (drop (8 - k) (numeral 16 i n))) e ∙ ap (take (8 - (8 - k))) (drop-numeral (8 - k) k n)
    ∙ take_all (8 - (8 - k)) (numeral 16 k n) all
