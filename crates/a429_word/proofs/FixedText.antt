-- The text of a fraction, as it is put together, is its spelling.
use Rattle.std.proofs.Common.{◌≡◌, ◌≢◌, ℕ, ◌+◌, ◌*◌, ◌/◌, ◌%◌, ◌-◌, ◌^◌, ◌<◌, ◌≤◌, List, [], ◌++◌, length, refl, sym, ap, ◌∙◌, arith, mul_assoc, mul_comm, append-nil, Bool, true, ◌⊎◌, ℤ, pos}
use Rattle.std.specs.Prelude.{unsigned_abs, ◌↔◌, ◌<ℤ◌}
use Rattle.std.specs.Fmt.{decimal}
use Rattle.std.specs.Str.Parse.{digits_value}
use Rattle.std.proofs.lemmas.Int.{to_z-of_z, ints}
use Rattle.std.proofs.lemmas.Nat.{div-add-mod', pow-add}
use mir.Val.{to_z, of_z, SFits}
use mir.Syntax.{w128}
use lib.Signed.{lt_z}
use Rattle.a429_word.specs.Digits.{numeral}
use Rattle.a429_word.specs.Fixed.{sign_text, with_point, SpellsFraction}
use Rattle.a429_word.proofs.FixedDecimals.{length-numeral, AllDigits-numeral_after, digits_value-numeral_after, EndsWell-numeral, AllDigits-decimal, digits_value-decimal, IsWhole-decimal}

-- a trailing zero is dropped
pub zero-dropped : (m n i j : ℕ) → m ≡ n * 10 ^ (i - j) → 0 < j → j ≤ i → n % 10 ≡ 0 → m ≡ n / 10 * 10 ^ (i - (j - 1))
zero-dropped m n i j e low high last =
    let up : i - (j - 1) ≡ (i - j) + 1 = omega arith in
    let p = 10 ^ (i - j) in
    let whole : n ≡ n / 10 * 10 = omega arith in
    e ∙ ap (λ x. x * p) whole ∙ mul_assoc (n / 10) 10 p
    ∙ ap (λ x. n / 10 * x) (mul_comm 10 p ∙ sym (pow-add 10 (i - j) 1) ∙ ap (λ x. 10 ^ x) (sym up))

-- the test in the code is whether the number is below zero
pub sign_test : (z : ℤ) → SFits w128 z → (lt_z (to_z w128 (of_z w128 z)) (pos 0) ≡ true) ↔ (z <ℤ pos 0)
sign_test z fits = rw (to_z-of_z w128 z fits) (λ h. grind (arith, ints), λ h. grind (arith, ints))

-- the digits stand for the fraction
value : (d n k : ℕ) (number : ℤ) → n < 2 ^ 128 → unsigned_abs number ≡ n * 10 ^ (d - k) → k ≤ d →
    digits_value 10 (decimal (n / 10 ^ k) ++ numeral 10 k n) * 10 ^ d ≡ unsigned_abs number * 10 ^ length (numeral 10 k n)
value d n k number fits is less =
    let whole = digits_value-numeral_after (decimal (n / 10 ^ k)) k n
    ∙ ap (λ v. v * 10 ^ k + n % 10 ^ k) (digits_value-decimal (n / 10 ^ k) (omega arith)) ∙ div-add-mod' n (10 ^ k) in
    let up : d ≡ (d - k) + k = omega arith in
    let powers : 10 ^ d ≡ 10 ^ (d - k) * 10 ^ k = ap (λ x. 10 ^ x) up ∙ pow-add 10 (d - k) k in
    rw (whole, is, length-numeral k n, powers) (sym (mul_assoc n (10 ^ (d - k)) (10 ^ k)))

spells : (number : ℤ) (minus : Bool) (d n k : ℕ)
    → n < 2 ^ 128 → (minus ≡ true) ↔ (number <ℤ pos 0) → unsigned_abs number ≡ n * 10 ^ (d - k) → k ≤ d → (k ≡ 0) ⊎ (n % 10 ≢ 0) →
    SpellsFraction (sign_text minus ++ (decimal (n / 10 ^ k) ++ with_point (numeral 10 k n))) number d
spells number minus d n k fits sign is less ends =
    let below : n / 10 ^ k < 2 ^ 128 = omega arith in
    record {
      minus = minus;
      whole = decimal (n / 10 ^ k);
      part = numeral 10 k n;
      layout = refl;
      digits = AllDigits-numeral_after (decimal (n / 10 ^ k)) k n (AllDigits-decimal (n / 10 ^ k) below);
      leading = IsWhole-decimal (n / 10 ^ k) below;
      trailing = EndsWell-numeral k n ends;
      sign = sign;
      value = value d n k number fits is less;
    }

-- the text, from its end to its front
pub put_together : (number : ℤ) (minus : Bool) (d n k whole : ℕ) (empty part pointed front text : List ℕ)
    → n < 2 ^ 128 → (minus ≡ true) ↔ (number <ℤ pos 0) →
    unsigned_abs number ≡ n * 10 ^ (d - k)
    → k ≤ d → (k ≡ 0) ⊎ (n % 10 ≢ 0) → empty ≡ [] → part ≡ numeral 10 k n ++ empty → whole ≡ n / 10 ^ k →
    pointed ≡ with_point part → front ≡ decimal whole ++ pointed → text ≡ sign_text minus ++ front → SpellsFraction text number d
put_together number minus d n k whole empty part pointed front text fits sign is less ends e1 e2 e3 e4 e5 e6 =
    let p : part ≡ numeral 10 k n = rw (e2, e1) (append-nil (numeral 10 k n)) in
    rw (e6, e5, e4, e3, p) (spells number minus d n k fits sign is less ends)
