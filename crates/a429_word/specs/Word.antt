-- A word and its fields (ARINC 429 Part 1, word formats). A word is its number; all else is said of its bits.
use Rattle.std.specs.Prelude.{ℕ, zero, suc, ◌+◌, ◌-◌, ◌*◌, ◌^◌, ◌%◌, ◌≡◌, ◌≤◌}
use Rattle.std.specs.Int.{bit_at}

-- f 0 + f 1 + .. + f (k - 1)
unfoldable pub sum_below : ℕ → (ℕ → ℕ) → ℕ
sum_below zero f = 0
sum_below (suc k) f = sum_below k f + f k

-- the number of 32 bits (profile): bit i, from 1 to 32, counts 2 ^ (i - 1)
abbrev pub number_of_bits : (ℕ → ℕ) → ℕ
number_of_bits bits = sum_below 32 (λ j. bits (j + 1) * 2 ^ j)

-- each of these is 0 or 1
abbrev pub AreBits : (ℕ → ℕ) → Type 0
AreBits bits = (i : ℕ) → bits i ≤ 1

-- bit i of a word, 0 or 1, i from 1 to 32
abbrev pub bit : ℕ → ℕ → ℕ
bit w i = bit_at w (i - 1)

-- the number that count bits make, from bit first on, of which the first is the least
abbrev pub number_at : ℕ → ℕ → ℕ → ℕ
number_at w first count = sum_below count (λ j. bit w (first + j) * 2 ^ j)

-- the label: bits 1 to 8, of which bit 1 is the most significant
abbrev pub label_of : ℕ → ℕ
label_of w = sum_below 8 (λ j. bit w (j + 1) * 2 ^ (7 - j))

-- the source/destination identifier: bits 9 and 10, bit 9 the lower one (profile)
abbrev pub sdi_of : ℕ → ℕ
sdi_of w = number_at w 9 2

-- the data field: bits 11 to 29
abbrev pub field_of : ℕ → ℕ
field_of w = number_at w 11 19

-- the sign/status matrix: bits 30 and 31, bit 30 the lower one (profile)
abbrev pub ssm_of : ℕ → ℕ
ssm_of w = number_at w 30 2

-- how many of the 32 bits are 1
abbrev pub count_of_ones : ℕ → ℕ
count_of_ones w = sum_below 32 (λ j. bit w (j + 1))

-- a good word has an odd number of ones, bit 32, the parity bit, among them
abbrev pub HasOddParity : ℕ → Type 0
HasOddParity w = count_of_ones w % 2 ≡ 1

-- two words are alike in label, SDI, data field and SSM
pub record SameFields (v w : ℕ) : Type 0 where
  pub label : label_of v ≡ label_of w
  pub sdi : sdi_of v ≡ sdi_of w
  pub field : field_of v ≡ field_of w
  pub ssm : ssm_of v ≡ ssm_of w

-- and in the parity bit: in each part
pub record SameParts (v w : ℕ) : Type 0 where
  pub fields : SameFields v w
  pub parity_bit : bit v 32 ≡ bit w 32
