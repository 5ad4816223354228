-- A number over a power of two, in decimals.
use Rattle.std.proofs.Common.{◌≡◌, ℕ, suc, zero, ◌+◌, ◌*◌, ◌^◌, ◌<◌, ◌≤◌, ℤ, pos, negsuc, neg_ℤ, ◌*ℤ◌, sym, ap, ◌∙◌, arith, FitsSigned}
use Rattle.std.proofs.Math.Nat.{pow-le-pow_right, mul_assoc}
use Rattle.std.proofs.Math.IntN.{pos-*ℤ-pos, negsuc-*ℤ-pos, zero-*ℤ}
use Rattle.std.proofs.lemmas.Nat.{pow-add, mul-pow}
use Rattle.std.proofs.lemmas.Int.{fits_signed_mul}
use Rattle.std.specs.Int.{w128}
use Rattle.std.specs.Int.Signed.{mag, nat_abs-le}

-- 2 ^ b * 10 ^ d in 5 ^ b: what the units of a fraction make
in_units : (b d : ℕ) → 5 ^ b * (2 ^ b * 10 ^ d) ≡ 10 ^ (b + d)
in_units b d =
    let ten : 5 ^ b * 2 ^ b ≡ 10 ^ b = sym (mul-pow 5 2 b) in
    sym (mul_assoc (5 ^ b) (2 ^ b) (10 ^ d)) ∙ ap (λ x. x * 10 ^ d) ten ∙ sym (pow-add 10 b d)

pub fives_fit : (number : ℤ) (b : ℕ) → mag number < 9223372036854775808 → b ≤ 24 → FitsSigned w128 (number *ℤ pos (5 ^ b))
fives_fit number b small h =
    fits_signed_mul w128 number (pos (5 ^ b)) 9223372036854775808 59604644775390625 (nat_abs-le number small)
    (pow-le-pow_right (omega arith) h) (omega arith)

-- a product of a number and two that are not below zero
minus_times : (x b : ℕ) → neg_ℤ (pos x) *ℤ pos b ≡ neg_ℤ (pos (x * b))
minus_times zero b =
    let none : 0 ≡ 0 * b = omega arith in
    zero-*ℤ (pos b) ∙ ap (λ (n : ℕ). neg_ℤ (pos n)) none
minus_times (suc x) b = negsuc-*ℤ-pos x b

pub times_twice : (z : ℤ) (a b : ℕ) → z *ℤ pos a *ℤ pos b ≡ z *ℤ pos (a * b)
times_twice (pos r) a b =
    ap (λ z. z *ℤ pos b) (pos-*ℤ-pos r a) ∙ pos-*ℤ-pos (r * a) b ∙ ap pos (mul_assoc r a b) ∙ sym (pos-*ℤ-pos r (a * b))
times_twice (negsuc r) a b =
    ap (λ z. z *ℤ pos b) (negsuc-*ℤ-pos r a) ∙ minus_times (suc r * a) b ∙ ap (λ n. neg_ℤ (pos n)) (mul_assoc (suc r) a b)
    ∙ sym (negsuc-*ℤ-pos r (a * b))

-- over 2 ^ b is the same as times 5 ^ b in units of 10 ^ b
pub halves-are : (number : ℤ) (b d : ℕ) → number *ℤ pos (5 ^ b) *ℤ pos (2 ^ b * 10 ^ d) ≡ number *ℤ pos (10 ^ (b + d))
halves-are number b d = times_twice number (5 ^ b) (2 ^ b * 10 ^ d) ∙ ap (λ n. number *ℤ pos n) (in_units b d)
