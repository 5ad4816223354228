-- Bits of a word that are side by side (ARINC 429 Part 1, word formats: bits are numbered from 1 to 32; which of them an export has: profile).
use Rattle.std.specs.Prelude.{◌≤◌, ℕ, ◌+◌, ◌-◌, ◌*◌, ◌^◌, if◌then◌else◌}
use Rattle.std.specs.Int.{bit_at}
use Rattle.a429_word.specs.Word.{sum_below}
use Rattle.a429_import.specs.declared.bits.Bits.{Bits}

-- they are some of the 32 bits
pub record AreInWord (b : Bits) : Type 0 where
  pub first : 1 ≤ b.low
  pub some : 1 ≤ b.count
  pub last : b.low + b.count ≤ 33

-- which bit of the word has bit j of a number, j from 0: the lowest bit of the number is the lowest of these, or where they are
-- reversed the highest
abbrev pub bit_for : Bits → ℕ → ℕ
bit_for b j = if b.reversed then b.low + b.count - 1 - j else b.low + j

-- a number at these bits; bit i of a word counts 2 ^ (i - 1)
abbrev pub placed : Bits → ℕ → ℕ
placed b n = sum_below b.count (λ j. bit_at n j * 2 ^ (bit_for b j - 1))
