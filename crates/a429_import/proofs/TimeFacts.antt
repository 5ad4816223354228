-- Plain times, digit by digit.
use Rattle.std.proofs.Common.{◌≡◌, ℕ, zero, suc, ◌+◌, ◌-◌, ◌*◌, ◌/◌, ◌%◌, ◌^◌, ◌<◌, ◌≤◌, arith, refl, ap, sym, ◌∙◌, List, [], ◌∷◌, ◌++◌, length, take, drop, get_or, Bool, true, false, ◌&&◌, ◌||◌, ◌==◌, nat_le, nat_lt, not, pow-suc, mul-le-mul_right, mul-le-mul_left, append_assoc, min, ◌⊎◌, inl, inr, length-drop}
use Rattle.std.specs.Char.{digit_value}
use Rattle.std.specs.Str.Parse.{digits_value, digits_value_after, AllDigits}
use Rattle.std.specs.List.{list_any}
use Rattle.std.proofs.lemmas.Bool.{and_parts, cases_lt, or_cases}
use Rattle.std.proofs.lemmas.Bool.Decides.{nat_tests}
use Rattle.std.proofs.lemmas.List.{take_more, take-append-drop}
use Rattle.std.proofs.lemmas.Nat.{pow-add, div-mul-add, mod-mul-add}
use Rattle.std.proofs.lemmas.Int.Digits.{digits_value-lt}
use Rattle.std.proofs.Math.Nat.{pow-le-pow_right}
use Rattle.a429_record.specs.Row.{all_digits}
use Rattle.a429_record.proofs.RowDigits.{all_digits-to}
use Rattle.a429_word.proofs.Powers.{pow-10_pos}
use Rattle.a429_word.proofs.FixedOneSpelling.{value_after-append, value-append, value-cons}
use Rattle.a429_import.specs.declared.time.Reading.{Reading}
use Rattle.a429_import.specs.Time.{counted, are_time_digits, AreFewDigits}

pub time_digits : (text : List ℕ) → are_time_digits text ≡ true → AreFewDigits text
time_digits text h =
    let front = and_parts (nat_le 1 (length text) && nat_le (length text) 30) (all_digits 10 text) h in
    let lengths = and_parts (nat_le 1 (length text)) (nat_le (length text) 30) front.0 in
    record { few = grind (arith, nat_tests); digits = all_digits-to 10 text front.1 }

pub no_digits : AreFewDigits []
no_digits = record { few = omega arith; digits = tt }

-- ---- a number is 0 where each of its digits is

no_zero : (d : ℕ) → digit_value d < 10 → (d == 48) ≡ false → 1 ≤ digit_value d
no_zero d small e = grind (arith, nat_tests)

digit_above_zero : (b : Bool) (d p v : ℕ)
    → (d == 48) ≡ b → digit_value d < 10 → 1 ≤ p → (not b || not (v == 0)) ≡ not (digit_value d * p + v == 0)
digit_above_zero true d p v e small some =
    let zero_digit : d ≡ 48 = grind (arith, nat_tests) in
    let none : digit_value d ≡ 0 = ap digit_value zero_digit in
    let same : v ≡ digit_value d * p + v = rw none (omega arith) in
    ap (λ n. not (n == 0)) same
digit_above_zero false d p v e small some =
    let above = no_zero d small e in
    let more = mul-le-mul_right p above in
    let positive : 1 ≤ digit_value d * p + v = omega arith in
    let test : (digit_value d * p + v == 0) ≡ false = grind (arith, nat_tests) in
    rw test refl

pub above_zero : (ds : List ℕ) → AllDigits 10 ds → list_any (λ b. not (b == 48)) ds ≡ not (digits_value 10 ds == 0)
above_zero [] all = refl
above_zero (d ∷ ds) all =
    rw (above_zero ds all.1) (digit_above_zero (d == 48) d (10 ^ length ds) (digits_value 10 ds) refl all.0 (pow-10_pos (length ds))
    ∙ ap (λ n. not (n == 0)) (sym (value-cons d ds)))

-- ---- digit by digit

pub digit_in : (ds : List ℕ) (i : ℕ) → i < length ds → AllDigits 10 ds → digit_value (get_or ds i 0) < 10
digit_in [] i inside all = absurd (omega arith)
digit_in (d ∷ ds) zero inside all = all.0
digit_in (d ∷ ds) (suc i) inside all = digit_in ds i (omega arith) all.1

pub AllDigits-drop : (ds : List ℕ) (i : ℕ) → AllDigits 10 ds → AllDigits 10 (drop i ds)
AllDigits-drop ds zero all = all
AllDigits-drop [] (suc i) all = tt
AllDigits-drop (d ∷ ds) (suc i) all = AllDigits-drop ds i all.1

pub next_digit : (n m : ℕ) (ds : List ℕ) (i d : ℕ) → i < length ds → m ≡ digits_value_after 10 n (take i ds)
    → d ≡ digit_value (get_or ds i 0) → m * 10 + d ≡ digits_value_after 10 n (take (i + 1) ds)
next_digit n m ds i d inside e f =
    rw (take_more ds i 0 inside, value_after-append n (take i ds) (get_or ds i 0 ∷ []), ← e, f) refl

power_step : (len i : ℕ) → i < len → 10 ^ (len - i) ≡ 10 ^ (len - (i + 1)) * 10
power_step len i inside =
    let e : len - i ≡ suc (len - (i + 1)) = omega arith in
    rw e (pow-suc 10 (len - (i + 1)))

-- there is room for one digit more
pub room_now : (n len i m : ℕ) → i < len → (n + 1) * 10 ^ (len - i) ≤ m → (n + 1) * 10 ≤ m
room_now n len i m inside h =
    let some = pow-10_pos (len - (i + 1)) in
    let ten : 10 ≤ 10 ^ (len - i) = rw (power_step len i inside) (omega arith) in
    omega (arith, mul-le-mul_left (n + 1) ten)

-- and after it for those that follow
pub room_after : (n d len i m : ℕ) → i < len → d < 10 → (n + 1) * 10 ^ (len - i) ≤ m → (n * 10 + d + 1) * 10 ^ (len - (i + 1)) ≤ m
room_after n d len i m inside small h =
    let more : n * 10 + d + 1 ≤ (n + 1) * 10 = omega arith in
    let step = mul-le-mul_right (10 ^ (len - (i + 1))) more in
    omega (arith, rw (power_step len i inside) at h)

-- ---- numbers that fit

pub first_room : (w : ℕ) → w ≤ 30 → 1 * 10 ^ w ≤ 10 ^ 36
first_room w h =
    let more : w ≤ 36 = omega arith in
    let most : 10 ^ w ≤ 10 ^ 36 = pow-le-pow_right (omega arith) more in
    omega arith

-- 64 bits have room
pub short_room : (n c : ℕ) → ((n == 0 && nat_le c 19) || (nat_lt n 10000000000000 && nat_le c 6)) ≡ true → (n + 1) * 10 ^ c ≤ 10 ^ 19
short_room n c h =
    elim (or_cases (n == 0 && nat_le c 19) (nat_lt n 10000000000000 && nat_le c 6) h) [ inl a ↦ none_before a | inr a ↦ some_before a ]
  where
    none_before : (n == 0 && nat_le c 19) ≡ true → (n + 1) * 10 ^ c ≤ 10 ^ 19
    none_before a =
        let parts = and_parts (n == 0) (nat_le c 19) a in
        let none : n ≡ 0 = grind (arith, nat_tests, parts.0) in
        let few : c ≤ 19 = grind (arith, nat_tests, parts.1) in
        let most : 10 ^ c ≤ 10 ^ 19 = pow-le-pow_right (omega arith) few in
        rw none (omega (arith, most))

    some_before : (nat_lt n 10000000000000 && nat_le c 6) ≡ true → (n + 1) * 10 ^ c ≤ 10 ^ 19
    some_before a =
        let parts = and_parts (nat_lt n 10000000000000) (nat_le c 6) a in
        let small : n + 1 ≤ 10 ^ 13 = grind (arith, nat_tests, parts.0) in
        let few : c ≤ 6 = grind (arith, nat_tests, parts.1) in
        let most : 10 ^ c ≤ 10 ^ 6 = pow-le-pow_right (omega arith) few in
        let left = mul-le-mul_right (10 ^ c) small in
        let right = mul-le-mul_left (10 ^ 13) most in
        omega arith

pub second_room : (n w a : ℕ) → n < 1 * 10 ^ w → w ≤ 30 → a ≤ 6 → (n + 1) * 10 ^ a ≤ 10 ^ 36
second_room n w a below h few =
    let first : 10 ^ w ≤ 10 ^ 30 = pow-le-pow_right (omega arith) h in
    let second : 10 ^ a ≤ 10 ^ 6 = pow-le-pow_right (omega arith) few in
    let up : n + 1 ≤ 10 ^ 30 = omega arith in
    let left = mul-le-mul_right (10 ^ a) up in
    let right = mul-le-mul_left (10 ^ 30) second in
    omega arith

pub third_room : (n w a b r : ℕ) → n < 1 * 10 ^ w → w ≤ 30 → a + b ≤ 6 → r < (n + 1) * 10 ^ a → r * 10 ^ b ≤ 10 ^ 36
third_room n w a b r below h few small =
    let all = second_room n w (a + b) below h few in
    let up : r ≤ (n + 1) * 10 ^ a = omega arith in
    let step = mul-le-mul_right (10 ^ b) up in
    let whole = ap (λ m. (n + 1) * m) (pow-add 10 a b) in
    omega arith

-- ---- whole microseconds, and the rest

scaled : (n s : ℕ) → 1 ≤ s → (n * s == 0) ≡ (n == 0)
scaled zero s some =
    let none : 0 * s ≡ 0 = omega arith in
    ap (λ m. m == 0) none
scaled (suc n) s some =
    let above : 1 ≤ suc n * s = omega arith in
    let first : (suc n * s == 0) ≡ false = grind (arith, nat_tests) in
    let second : (suc n == 0) ≡ false = grind (arith, nat_tests) in
    first ∙ sym second

-- a number whose digits after some places are cut off
cut_number : (a b p k n : ℕ) → k ≤ p → (a * 10 ^ n + b) * (10 ^ p * 1000) ≡ a * 10 ^ (p - k) * (10 ^ (k + n) * 1000) + b * (10 ^ p * 1000)
cut_number a b p k n h =
    let places : n + p ≡ p - k + (k + n) = omega arith in
    let powers : 10 ^ n * 10 ^ p ≡ 10 ^ (p - k) * 10 ^ (k + n) =
    sym (pow-add 10 n p) ∙ ap (λ m. 10 ^ m) places ∙ pow-add 10 (p - k) (k + n) in
    omega (arith, ap (λ m. a * m * 1000) powers)

cut_below-none : (b p k : ℕ) → b < 1 → b * (10 ^ p * 1000) < 10 ^ (k + 0) * 1000
cut_below-none b p k h =
    let none : b ≡ 0 = omega arith in
    let some = pow-10_pos (k + 0) in
    rw none (omega arith)

cut_below-all : (b p n : ℕ) → b < 10 ^ n → b * (10 ^ p * 1000) < 10 ^ (p + n) * 1000
cut_below-all b p n h =
    let some = pow-10_pos p in
    let up : suc b ≤ 10 ^ n = omega arith in
    let step = mul-le-mul_right (10 ^ p) up in
    let powers = pow-add 10 p n in
    omega arith

-- ---- what a number counts

counted-is : (nanos q r : ℕ) (whole part : List ℕ) (cut : Bool)
    → digits_value 10 (whole ++ part) * nanos ≡ q * (10 ^ length part * 1000) + r → r < 10 ^ length part * 1000 → cut ≡ not (r == 0)
    → ◌≡◌ {A = Reading} (record { micros = q; is_cut = cut }) (counted nanos whole part)
counted-is nanos q r whole part cut e h last =
    rw (e, div-mul-add q (10 ^ length part * 1000) r h, mod-mul-add q (10 ^ length part * 1000) r h, last) refl

rest_below : (b p k m : ℕ) → b < 10 ^ m → (m ≡ 0) ⊎ (k ≡ p) → b * (10 ^ p * 1000) < 10 ^ (k + m) * 1000
rest_below b p k m h (inl e) = rw e (cut_below-none b p k (rw e at h))
rest_below b p k m h (inr e) = rw e (cut_below-all b p m h)

-- the digits that are kept, and the others
split_number : (k n : ℕ) (whole part : List ℕ) → n ≡ digits_value_after 10 (digits_value_after 10 0 whole) (take k part)
    → digits_value 10 (whole ++ part) ≡ n * 10 ^ (length part - k) + digits_value 10 (drop k part)
split_number k n whole part e =
    let parts : whole ++ part ≡ (whole ++ take k part) ++ drop k part =
    ap (λ (x : List ℕ). whole ++ x) (sym (take-append-drop k part)) ∙ sym (append_assoc whole (take k part) (drop k part)) in
    let front : digits_value 10 (whole ++ take k part) ≡ n = value_after-append 0 whole (take k part) ∙ sym e in
    ap (digits_value 10) parts ∙ value-append (whole ++ take k part) (drop k part) ∙ rw (front, length-drop k part) refl

pub kept_is : (p k n : ℕ) (whole part : List ℕ) (cut : Bool)
    → k ≡ min (length part) p → n ≡ digits_value_after 10 (digits_value_after 10 0 whole) (take k part) → AllDigits 10 part
    → cut ≡ not (digits_value 10 (drop k part) == 0)
    → ◌≡◌ {A = Reading} (record { micros = n * 10 ^ (p - k); is_cut = cut }) (counted (10 ^ p * 1000) whole part)
kept_is p k n whole part cut least e all last =
    let m = length part - k in
    let b = digits_value 10 (drop k part) in
    let below : b < 10 ^ m = rw (length-drop k part) at (digits_value-lt 10 (drop k part) (AllDigits-drop part k all)) in
    let within : k ≤ p = omega arith in
    let places : k + m ≡ length part = omega arith in
    let which : (m ≡ 0) ⊎ (k ≡ p) = elim (cases_lt (length part) p) [ inl lt ↦ inl (omega arith) | inr ge ↦ inr (omega arith) ] in
    let some : 1 ≤ 10 ^ p * 1000 = omega (arith, pow-10_pos p) in
    let value = ap (λ v. v * (10 ^ p * 1000)) (split_number k n whole part e) ∙ cut_number n b p k m within in
    let small = rest_below b p k m below which in
    counted-is (10 ^ p * 1000) (n * 10 ^ (p - k)) (b * (10 ^ p * 1000)) whole part cut (rw places at value) (rw places at small)
    (last ∙ ap not (sym (scaled b (10 ^ p * 1000) some)))

-- a number of nanoseconds: its last three digits, and those after the point, are cut off
thousandths : (w x b : ℕ) → (w * x + b) * 1 ≡ w / 1000 * (x * 1000) + (w % 1000 * x + b)
thousandths w x b =
    let e : w ≡ w / 1000 * 1000 + w % 1000 = omega arith in
    let times : w * x ≡ (w / 1000 * 1000 + w % 1000) * x = ap (λ m. m * x) e in
    omega (arith, times)

thousandths_below : (w x b : ℕ) → b < x → w % 1000 * x + b < x * 1000
thousandths_below w x b h =
    let few : w % 1000 ≤ 999 = omega arith in
    omega (arith, mul-le-mul_right x few)

nanoseconds_are : (w : ℕ) (whole part : List ℕ) (cut : Bool) → w ≡ digits_value_after 10 0 whole → AllDigits 10 part
    → cut ≡ not (w % 1000 * 10 ^ length part + digits_value 10 part == 0)
    → ◌≡◌ {A = Reading} (record { micros = w / 1000; is_cut = cut }) (counted 1 whole part)
nanoseconds_are w whole part cut e all last =
    let b = digits_value 10 part in
    let x = 10 ^ length part in
    let value : digits_value 10 (whole ++ part) ≡ w * x + b = rw e (value-append whole part) in
    counted-is 1 (w / 1000) (w % 1000 * x + b) whole part cut (ap (λ v. v * 1) value ∙ thousandths w x b)
    (thousandths_below w x b (digits_value-lt 10 part all)) last

pub thousandth-some : (w : ℕ) (whole part : List ℕ) → w ≡ digits_value_after 10 0 whole → AllDigits 10 part → (w % 1000 ≡ 0 → ⊥)
    → ◌≡◌ {A = Reading} (record { micros = w / 1000; is_cut = not (w % 1000 == 0) }) (counted 1 whole part)
thousandth-some w whole part e all some =
    let above : 1 ≤ w % 1000 = omega arith in
    let more = mul-le-mul_right (10 ^ length part) above in
    let positive : 1 ≤ w % 1000 * 10 ^ length part + digits_value 10 part = omega (arith, pow-10_pos (length part)) in
    let first : (w % 1000 == 0) ≡ false = grind (arith, nat_tests) in
    let second : (w % 1000 * 10 ^ length part + digits_value 10 part == 0) ≡ false = grind (arith, nat_tests) in
    nanoseconds_are w whole part _ e all (rw (first, second) refl)

pub thousandth-none : (w : ℕ) (whole part : List ℕ) (cut : Bool)
    → w ≡ digits_value_after 10 0 whole → AllDigits 10 part → w % 1000 ≡ 0 → cut ≡ not (digits_value 10 part == 0)
    → ◌≡◌ {A = Reading} (record { micros = w / 1000; is_cut = cut }) (counted 1 whole part)
thousandth-none w whole part cut e all none last =
    let same : digits_value 10 part ≡ w % 1000 * 10 ^ length part + digits_value 10 part = rw none (omega arith) in
    nanoseconds_are w whole part cut e all (last ∙ ap (λ n. not (n == 0)) same)
