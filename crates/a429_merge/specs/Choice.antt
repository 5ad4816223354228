-- Columns whose exclusive or is a wanted number.
use Rattle.std.specs.Prelude.{◌≡◌, ◌==◌, ℕ, ◌/◌, ◌%◌, ◌^◌, ◌<◌, All, List, [], ◌∷◌, length, bit_xor, fold, if◌then◌else◌}
use Rattle.std.specs.Int.{bit_at, trailing_zeros, w16}
use Rattle.a429_merge.specs.declared.choice.Sum.{Sum}

-- the exclusive or of the columns whose bit is 1, the first column's lowest
abbrev pub xor_of : List ℕ → ℕ → ℕ
xor_of [] m = 0
xor_of (c ∷ cs) m = bit_xor (if m % 2 == 1 then c else 0) (xor_of cs (m / 2))

-- the lowest bit of a sum is taken away with it
abbrev pub reduced_by : Sum → Sum → Sum
reduced_by c s = if bit_at c.value (trailing_zeros w16 s.value) == 1 then record { value = bit_xor c.value s.value; chosen = bit_xor c.chosen s.chosen } else c

-- sums of columns, none of them 0, to which each of these reduces
pub record IsBasis (columns : List ℕ) (basis : List Sum) (reducing : List ℕ) : Type 0 where
  pub sums : All (λ s. xor_of columns s.chosen ≡ s.value) basis
  pub within : All (λ s. s.chosen < 2 ^ length columns) basis
  pub nonzero : All (λ s. 0 < s.value) basis
  pub small : All (λ s. s.value < 2 ^ 16) basis
  pub reduce : All (λ x. (fold reduced_by (record { value = x; chosen = 0 }) basis).value ≡ 0) reducing
