-- Functions that keep exclusive ors, except for their value at 0.
use Rattle.std.proofs.Common.{◌≡◌, ℕ, zero, suc, ◌+◌, ◌*◌, ◌/◌, ◌%◌, ◌^◌, ◌<◌, cond, eqb, List, [], ◌∷◌, bit_xor, sym, ap, ◌∙◌, arith, pow-suc}
use Rattle.std.specs.Int.Bits.{xor_self, xor_shifted}
use Rattle.std.proofs.lemmas.Nat.{xor_comm, pow_pos}
use Rattle.a429_merge.specs.Choice.{xor_of}
use Rattle.a429_merge.proofs.XorFacts.{cancel, twice}

-- the values at a sum and at 0 have the sum of the values
abbrev pub IsAffine : (ℕ → ℕ) → Type 0
IsAffine g = (a b : ℕ) → bit_xor (g (bit_xor a b)) (g 0) ≡ bit_xor (g a) (g b)

-- what each of n bits from place k on changes of the value at 0
abbrev pub changes : (ℕ → ℕ) → ℕ → ℕ → List ℕ
changes g k zero = []
changes g k (suc n) = bit_xor (g (2 ^ k)) (g 0) ∷ changes g (k + 1) n

spread : (q r p : ℕ) → (q * 2 + r) * p ≡ q * (p * 2) + r * p
spread q r p = omega arith

low_part : (r p : ℕ) → r < 2 → 0 < p → r * p < p * 2
low_part zero p h l = omega arith
low_part (suc zero) p h l = omega arith
low_part (suc (suc r)) p h l = absurd (omega arith)

-- a number by its lowest bit
split : (m k : ℕ) → m * 2 ^ k ≡ bit_xor (m / 2 * 2 ^ (k + 1)) (m % 2 * 2 ^ k)
split m k =
    let p : 2 ^ (k + 1) ≡ 2 ^ k * 2 = ap (λ (n : ℕ). 2 ^ n) (omega arith) ∙ pow-suc 2 k in
    let whole : m ≡ m / 2 * 2 + m % 2 = omega arith in
    let small : m % 2 * 2 ^ k < 2 ^ (k + 1) = rw p (low_part (m % 2) (2 ^ k) (omega arith) (pow_pos k)) in
    ap (λ (n : ℕ). n * 2 ^ k) whole
    ∙ spread (m / 2) (m % 2) (2 ^ k)
    ∙ ap (λ (n : ℕ). m / 2 * n + m % 2 * 2 ^ k) (sym p)
    ∙ sym (xor_shifted (m / 2) (k + 1) (m % 2 * 2 ^ k) small)

module _ (g : ℕ → ℕ) (affine : IsAffine g) where
  abbrev change : ℕ → ℕ
  change a = bit_xor (g a) (g 0)

  change-xor : (a b : ℕ) → change (bit_xor a b) ≡ bit_xor (change a) (change b)
  change-xor a b = affine a b ∙ sym (cancel (g a) (g b) (g 0))

  change-low : (r p : ℕ) → r < 2 → change (r * p) ≡ cond (eqb r 1) (change p) 0
  change-low zero p h = let none : 0 * p ≡ 0 = omega arith in ap change none ∙ xor_self (g 0)
  change-low (suc zero) p h = let one : 1 * p ≡ p = omega arith in ap change one
  change-low (suc (suc r)) p h = absurd (omega arith)

  changes-sum : (n k m : ℕ) → m < 2 ^ n → change (m * 2 ^ k) ≡ xor_of (changes g k n) m
  changes-sum zero k m h =
      let none : m ≡ 0 = omega arith in
      let all : m * 2 ^ k ≡ 0 = ap (λ (n : ℕ). n * 2 ^ k) none ∙ omega arith in
      ap change all ∙ xor_self (g 0)
  changes-sum (suc n) k m h =
      let p : 2 ^ suc n ≡ 2 ^ n * 2 = pow-suc 2 n in
      let high = changes-sum n (k + 1) (m / 2) (omega arith) in
      let low = change-low (m % 2) (2 ^ k) (omega arith) in
      ap change (split m k)
      ∙ change-xor (m / 2 * 2 ^ (k + 1)) (m % 2 * 2 ^ k)
      ∙ ap (λ (x : ℕ). bit_xor x (change (m % 2 * 2 ^ k))) high
      ∙ ap (bit_xor (xor_of (changes g (k + 1) n) (m / 2))) low
      ∙ xor_comm (xor_of (changes g (k + 1) n) (m / 2)) (cond (eqb (m % 2) 1) (change (2 ^ k)) 0)

  pub value_of : (n m : ℕ) → m < 2 ^ n → g m ≡ bit_xor (g 0) (xor_of (changes g 0 n) m)
  value_of n m h =
      let all : m * 2 ^ 0 ≡ m = omega arith in
      twice (g m) (g 0) ∙ ap (bit_xor (g 0)) (ap change (sym all) ∙ changes-sum n 0 m h)
