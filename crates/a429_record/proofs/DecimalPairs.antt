-- Numbers below 100 as two digits, tabulated.
use Rattle.std.proofs.Common.{◌≡◌, ℕ, zero, suc, ◌+◌, ◌-◌, ◌*◌, ◌/◌, ◌%◌, ◌<◌, Bool, true, ◌&&◌, T, eqb, get_or, arith, eq-zero-or-pos, eqb→eq, inl, inr}
use lib.Ieee.Fits.{and_l, and_r}
use Rattle.a429_record.specs.declared.entry_text.TheConstants.{DECIMAL_PAIRS}

abbrev are_pairs : ℕ → Bool
are_pairs zero = true
are_pairs (suc n) =
    (eqb (get_or DECIMAL_PAIRS (n * 2) 0) (48 + n / 10) && eqb (get_or DECIMAL_PAIRS (n * 2 + 1) 0) (48 + n % 10)) && are_pairs n

below : (count n : ℕ)
    → T (are_pairs count) → n < count → (get_or DECIMAL_PAIRS (n * 2) 0 ≡ 48 + n / 10) × (get_or DECIMAL_PAIRS (n * 2 + 1) 0 ≡ 48 + n % 10)
below zero n t h = absurd (omega arith)
below (suc count) n t h =
    elim (eq-zero-or-pos (count - n)) [
      | inl z ↦
          let e : n ≡ count = omega arith in let a = and_l _ (are_pairs count) t in
          rw e (eqb→eq _ _ (and_l _ _ a), eqb→eq _ _ (and_r _ _ a))
      | inr g ↦ below count n (and_r _ (are_pairs count) t) (omega arith)
    ]

pub decimal_pairs-at : (n : ℕ)
    → n < 100 → (get_or DECIMAL_PAIRS (n * 2) 0 ≡ 48 + n / 10) × (get_or DECIMAL_PAIRS (n * 2 + 1) 0 ≡ 48 + n % 10)
decimal_pairs-at n h = below 100 n tt h
