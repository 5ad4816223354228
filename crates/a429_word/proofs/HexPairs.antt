-- Bytes as two hexadecimal digits, tabulated.
use Rattle.std.proofs.Common.{◌≡◌, ℕ, zero, suc, ◌+◌, ◌-◌, ◌*◌, ◌/◌, ◌%◌, ◌<◌, Bool, true, ◌&&◌, T, eqb, get_or, arith, eq-zero-or-pos, eqb→eq, inl, inr}
use Rattle.std.specs.Fmt.{digit_glyph}
use lib.Ieee.Fits.{and_l, and_r}
use Rattle.a429_word.specs.declared.digits.TheConstants.{HEX_PAIRS}

abbrev upper : ℕ → ℕ
upper p = digit_glyph true (p / 16)

abbrev lower : ℕ → ℕ
lower p = digit_glyph true (p % 16)

abbrev are_pairs : ℕ → Bool
are_pairs zero = true
are_pairs (suc p) = (eqb (get_or HEX_PAIRS (p * 2) 0) (upper p) && eqb (get_or HEX_PAIRS (p * 2 + 1) 0) (lower p)) && are_pairs p

below : (n p : ℕ) → T (are_pairs n) → p < n → (get_or HEX_PAIRS (p * 2) 0 ≡ upper p) × (get_or HEX_PAIRS (p * 2 + 1) 0 ≡ lower p)
below zero p t h = absurd (omega arith)
below (suc n) p t h =
    elim (eq-zero-or-pos (n - p)) [
      | inl z ↦ let e : p ≡ n = omega arith in let a = and_l _ (are_pairs n) t in rw e (eqb→eq _ _ (and_l _ _ a), eqb→eq _ _ (and_r _ _ a))
      | inr g ↦ below n p (and_r _ (are_pairs n) t) (omega arith)
    ]

pub hex_pairs-at : (p : ℕ) → p < 256 → (get_or HEX_PAIRS (p * 2) 0 ≡ upper p) × (get_or HEX_PAIRS (p * 2 + 1) 0 ≡ lower p)
hex_pairs-at p h = below 256 p tt h
