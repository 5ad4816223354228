-- Numbers in fields are read as they are spelled.
use Rattle.std.proofs.Common.{◌≡◌, ◌==◌, ◌∙◌, inl, inr, ◌≤◌, ◌<◌, ◌^◌, ◌+◌, ◌-◌, ◌*◌, ◌/◌, ◌%◌, ℕ, List, [], ◌∷◌, ◌++◌, length, take, drop, true, false, ◌&&◌, nat_le, Option, Some, None, refl, sym, ap, subst, arith, append_assoc}
use Rattle.std.specs.Fmt.{decimal}
use Rattle.std.specs.List.{list_all}
use Rattle.std.specs.Str.Parse.{digits_value}
use Rattle.std.proofs.lemmas.Bool.{and_parts, cases_lt}
use Rattle.std.proofs.lemmas.Bool.Decides.{nat_tests}
use Rattle.std.proofs.lemmas.Fmt.{decimal_digit, decimal_step}
use Rattle.std.proofs.lemmas.Int.Digits.{digits_value-lt}
use Rattle.std.proofs.lemmas.List.{append-nil, length-append, length-take-le, take-append-drop, take_at, drop_at}
use Rattle.std.proofs.Math.Nat.{mod-eq_of_lt}
use Rattle.std.proofs.lemmas.Option.{same_Some}
use Rattle.a429_word.specs.Digits.{numeral}
use Rattle.a429_cert.specs.Field.{field, when, with_rest, is_digit, hex_digits_in, hex_in, decimal_digit_in, with_digit, with_next_digit, decimal_in, last_decimal_in}
use Rattle.a429_cert.proofs.FieldDigits.{AllDigits-from, length-numeral, digits-numeral, value-numeral, numeral-value}
use Rattle.a429_cert.proofs.FieldFacts.{IsNext, IsSpelling, last-back, field-only}
use Rattle.a429_cert.proofs.Options.{bind_some, when_some, parted, either}

-- ---- tests

pub fits : (m n : ℕ) → m ≤ n → nat_le m n ≡ true
fits m n h = grind (arith, nat_tests)

pub below : (m n : ℕ) → nat_le m n ≡ true → m < n + 1
below m n h = grind (arith, nat_tests)

pub is_same : (m n : ℕ) → (m == n) ≡ true → m ≡ n
is_same m n h = grind (arith, nat_tests)

-- ---- one decimal digit

digit-test : (d : ℕ) → d < 10 → (nat_le 48 (48 + d) && nat_le (48 + d) 57) ≡ true
digit-test d h = grind (arith, nat_tests)

digit-back : (d : ℕ) (rest : List ℕ) → d < 10 → decimal_digit_in ((48 + d) ∷ rest) ≡ Some (d, rest)
unfolding decimal_digit_in
digit-back d rest h = let value : 48 + d - 48 ≡ d = omega arith in rw (digit-test d h, value) refl

no-digit : (rest : List ℕ) → IsNext rest → decimal_digit_in rest ≡ None
unfolding decimal_digit_in
no-digit [] next = refl
no-digit (b ∷ bs) next = rw next refl

digit-only : (bytes : List ℕ) (digit : ℕ × List ℕ)
    → decimal_digit_in bytes ≡ Some digit → (bytes ≡ (48 + digit.0) ∷ digit.1) × (digit.0 < 10)
unfolding decimal_digit_in
digit-only [] digit e = absurd cc
digit-only (b ∷ bs) digit e =
    let w = when_some (nat_le 48 b && nat_le b 57) (b - 48, bs) digit e in
    let parts = and_parts (nat_le 48 b) (nat_le b 57) w.0 in
    let least : 48 ≤ b = omega (arith, below 48 b parts.0) in
    let most : b ≤ 57 = omega (arith, below b 57 parts.1) in
    let is : b ≡ 48 + (b - 48) = omega arith in
    let P : ℕ × List ℕ → Type 0 = λ x. (b ∷ bs ≡ (48 + x.0) ∷ x.1) × (x.0 < 10) in
    subst P w.1 (ap (λ n. n ∷ bs) is, omega arith)

-- ---- decimal numbers, as they are spelled

goes-back : (n d : ℕ) (rest : List ℕ) → d < 10 → n * 10 + d ≤ 255 → with_next_digit (n, (48 + d) ∷ rest) ≡ Some (n * 10 + d, rest)
unfolding with_next_digit
goes-back n d rest h most = rw (digit-back d rest h, fits (n * 10 + d) 255 most) refl

ends-back : (n : ℕ) (rest : List ℕ) → IsNext rest → with_next_digit (n, rest) ≡ Some (n, rest)
unfolding with_next_digit
ends-back n rest next = rw (no-digit rest next) refl

some-digit : (d : ℕ) → 1 ≤ d → (d == 0) ≡ false
some-digit d h = grind (arith, nat_tests)

one-back : (a : ℕ) (rest : List ℕ) → a < 10 → IsNext rest → decimal_in ((48 + a) ∷ rest) ≡ Some (a, rest)
unfolding decimal_in
one-back a rest h next =
    rw (digit-back a rest h, ends-back a rest next, ends-back a rest next)
    (either (a == 0) (Some (a, rest)) (Some (a, rest)) (Some (a, rest)) refl refl)

two-back : (a b : ℕ) (rest : List ℕ)
    → 1 ≤ a → a < 10 → b < 10 → IsNext rest → decimal_in ((48 + a) ∷ (48 + b) ∷ rest) ≡ Some (a * 10 + b, rest)
unfolding decimal_in
two-back a b rest some h i next =
    rw (digit-back a ((48 + b) ∷ rest) h, some-digit a some, goes-back a b rest i (omega arith), ends-back (a * 10 + b) rest next) refl

three-back : (a b c : ℕ) (rest : List ℕ) → 1 ≤ a → a < 10 → b < 10 → c < 10 → (a * 10 + b) * 10 + c ≤ 255
    → decimal_in ((48 + a) ∷ (48 + b) ∷ (48 + c) ∷ rest) ≡ Some ((a * 10 + b) * 10 + c, rest)
unfolding decimal_in
three-back a b c rest some h i j most =
    rw (
      digit-back a ((48 + b) ∷ (48 + c) ∷ rest) h,
      some-digit a some,
      goes-back a b ((48 + c) ∷ rest) i (omega arith),
      goes-back (a * 10 + b) c rest j most,
    ) refl

number-back : (n : ℕ) (rest : List ℕ) → n < 256 → IsNext rest → decimal_in (decimal n ++ rest) ≡ Some (n, rest)
number-back n rest h next =
    elim (cases_lt n 10) [
      | inl one ↦ rw (decimal_digit n one) (one-back n rest one next)
      | inr more ↦
          let a = n / 10 in
          let b = n % 10 in
          let is : a * 10 + b ≡ n = omega arith in
          elim (cases_lt a 10) [
            | inl two ↦
                rw (decimal_step n more (omega arith), decimal_digit a two)
                (two-back a b rest (omega arith) two (omega arith) next ∙ ap (λ m. Some (m, rest)) is)
            | inr three ↦
                let c = a / 10 in
                let d = a % 10 in
                let high : c * 10 + d ≡ a = omega arith in
                let low : (c * 10 + d) * 10 + b ≡ n = omega arith in
                rw (decimal_step n more (omega arith), decimal_step a three (omega arith), decimal_digit c (omega arith))
                (three-back c d b rest (omega arith) (omega arith) (omega arith) (omega arith) (omega arith) ∙ ap (λ m. Some (m, rest)) low)
          ]
    ]

-- ---- what is read is spelled so

-- bytes that begin with a decimal number
record Begins (bytes : List ℕ) (number : ℕ × List ℕ) : Type 0 where
  pub spelled : bytes ≡ decimal number.0 ++ number.1
  pub least : 1 ≤ number.0
  pub most : number.0 ≤ 255

longer : (n d : ℕ) → 1 ≤ n → n ≤ 255 → d < 10 → decimal (n * 10 + d) ≡ decimal n ++ (48 + d) ∷ []
longer n d some most h =
    let high : (n * 10 + d) / 10 ≡ n = omega arith in
    let low : (n * 10 + d) % 10 ≡ d = omega arith in
    decimal_step (n * 10 + d) (omega arith) (omega arith) ∙ rw (high, low) refl

goes-only : (bytes : List ℕ) (n v : ℕ × List ℕ) → Begins bytes n → with_next_digit n ≡ Some v → Begins bytes v
unfolding with_next_digit
goes-only bytes n v is e = by (decimal_digit_in n.1) refl e
  where
    by : (o : Option (ℕ × List ℕ)) → decimal_digit_in n.1 ≡ o → with_digit n.0 n.1 o ≡ Some v → Begins bytes v
    by None f g = subst (Begins bytes) (same_Some (n.0, n.1) v g) is
    by (Some x) f g =
        let w = when_some (nat_le (n.0 * 10 + x.0) 255) (n.0 * 10 + x.0, x.1) v g in
        let here = digit-only n.1 x f in
        let most : n.0 * 10 + x.0 ≤ 255 = omega (arith, below (n.0 * 10 + x.0) 255 w.0) in
        subst (Begins bytes) w.1 (record {
          spelled = is.spelled ∙ ap (λ t. decimal n.0 ++ t) here.0 ∙ sym (append_assoc (decimal n.0) ((48 + x.0) ∷ []) x.1)
              ∙ ap (λ t. t ++ x.1) (sym (longer n.0 x.0 is.least is.most here.1));
          least = omega (arith, is.least);
          most = most;
        })

number-only : (bytes : List ℕ) (v : ℕ × List ℕ) → decimal_in bytes ≡ Some v → (bytes ≡ decimal v.0 ++ v.1) × (v.0 < 256)
unfolding decimal_in
number-only bytes v e =
    let first = bind_some (decimal_digit_in bytes) _ v e in
    let here = digit-only bytes first.0 first.1 in
    let spelled : bytes ≡ decimal first.0.0 ++ first.0.1 = here.0 ∙ ap (λ t. t ++ first.0.1) (sym (decimal_digit first.0.0 here.1)) in
    elim (parted (first.0.0 == 0) (Some first.0) _ v first.2) [
      | inl p ↦
          let P : ℕ × List ℕ → Type 0 = λ x. (bytes ≡ decimal x.0 ++ x.1) × (x.0 < 256) in
          subst P (same_Some first.0 v p.1) (spelled, omega (arith, here.1))
      | inr r ↦
          let second = bind_some (with_next_digit first.0) with_next_digit v r.1 in
          let one =
          goes-only bytes first.0 second.0
          (record { spelled = spelled; least = not-zero first.0.0 r.0; most = omega (arith, here.1) }) second.1 in
          let two = goes-only bytes second.0 v one second.2 in
          (two.spelled, omega (arith, two.most))
    ]
  where
    not-zero : (d : ℕ) → (d == 0) ≡ false → 1 ≤ d
    not-zero d h = grind (arith, nat_tests)

pub decimals : IsSpelling decimal_in decimal (λ n. n < 256)
decimals = record { back = number-back; only = number-only }

-- ---- the last number of a line

pub nothing : (text : List ℕ) → (length text == 0) ≡ true → text ≡ []
nothing [] h = refl
nothing (b ∷ bs) h = absurd (omega (arith, is_same (length (b ∷ bs)) 0 h))

pub last_decimal-back : (n : ℕ) → n < 256 → last_decimal_in (field (decimal n)) ≡ Some n
unfolding last_decimal_in
last_decimal-back n h = rw (last-back decimal_in decimal (λ n. n < 256) decimals n h) refl

pub last_decimal-only : (text : List ℕ) (n : ℕ) → last_decimal_in text ≡ Some n → (text ≡ field (decimal n)) × (n < 256)
unfolding last_decimal_in
last_decimal-only text n e =
    let number = bind_some (with_rest decimal_in text) _ n e in
    let w = when_some (length number.0.1 == 0) number.0.0 n number.2 in
    let here = field-only decimal_in decimal (λ n. n < 256) decimals text number.0 number.1 in
    let P : ℕ → Type 0 = λ x. (text ≡ field (decimal x)) × (x < 256) in
    subst P w.1
    (here.0 ∙ ap (λ t. field (decimal number.0.0) ++ t) (nothing number.0.1 w.0) ∙ append-nil (field (decimal number.0.0)), here.1)

-- ---- hexadecimal numbers

digits_in-only : (text : List ℕ) (n : ℕ) → hex_digits_in text ≡ Some n → (list_all (is_digit 16) text ≡ true) × (digits_value 16 text ≡ n)
unfolding hex_digits_in
digits_in-only text n e = when_some (list_all (is_digit 16) text) (digits_value 16 text) n e

digits_in-back : (text : List ℕ) → list_all (is_digit 16) text ≡ true → hex_digits_in text ≡ Some (digits_value 16 text)
unfolding hex_digits_in
digits_in-back text h = rw h refl

hex-back : (k n : ℕ) (rest : List ℕ) → n < 16 ^ k → IsNext rest → hex_in k (numeral 16 k n ++ rest) ≡ Some (n, rest)
unfolding hex_in
hex-back k n rest h next =
    let value : digits_value 16 (numeral 16 k n) ≡ n = value-numeral k n ∙ mod-eq_of_lt h in
    let room : nat_le k (length (numeral 16 k n ++ rest)) ≡ true =
    fits k (length (numeral 16 k n ++ rest)) (omega (arith, length-append (numeral 16 k n) rest, length-numeral k n)) in
    rw (
      room,
      take_at (numeral 16 k n) rest k (length-numeral k n),
      drop_at (numeral 16 k n) rest k (length-numeral k n),
      digits_in-back (numeral 16 k n) (digits-numeral k n),
      value,
    ) refl

hex-only : (k : ℕ) (text : List ℕ) (v : ℕ × List ℕ) → hex_in k text ≡ Some v → (text ≡ numeral 16 k v.0 ++ v.1) × (v.0 < 16 ^ k)
unfolding hex_in
hex-only k text v e =
    let a = bind_some (when (nat_le k (length text)) (take k text)) _ v e in
    let tests = when_some (nat_le k (length text)) (take k text) a.0 a.1 in
    let b = bind_some (hex_digits_in a.0) _ v a.2 in
    let digits = digits_in-only (take k text) b.0 (ap hex_digits_in tests.1 ∙ b.1) in
    let len : length (take k text) ≡ k = length-take-le k text (omega (arith, below k (length text) tests.0)) in
    let here : take k text ≡ numeral 16 k b.0 =
    numeral-value (take k text) digits.0 ∙ ap (λ j. numeral 16 j (digits_value 16 (take k text))) len ∙ ap (numeral 16 k) digits.1 in
    let low = digits_value-lt 16 (take k text) (AllDigits-from 16 (take k text) digits.0) in
    let small : b.0 < 16 ^ k = rw len at (rw digits.1 at low) in
    let P : ℕ × List ℕ → Type 0 = λ x. (text ≡ numeral 16 k x.0 ++ x.1) × (x.0 < 16 ^ k) in
    subst P (same_Some (b.0, drop k text) v b.2) (sym (take-append-drop k text) ∙ ap (λ t. t ++ drop k text) here, small)

pub numerals : (k : ℕ) → IsSpelling (hex_in k) (numeral 16 k) (λ n. n < 16 ^ k)
numerals k = record { back = hex-back k; only = hex-only k }
