-- The BCD value (ARINC 429 Part 1, binary coded decimal). How many digits k a value has, and the place of a bad one, are the project's own (profile).
use Rattle.std.specs.Prelude.{◌≡◌, ℕ, ◌-◌, ◌*◌, ◌^◌, ◌≤◌, ◌<◌, ◌==◌, if◌then◌else◌, Result, Ok, Err}
use Rattle.a429_word.specs.declared.bcd.BadDigit.{BadDigit}
use Rattle.a429_word.specs.Word.{sum_below, number_at}

-- digit i, from 1 to 5, of which 1 is the most significant: it is the number of bits 27 to 29, the second of 23 to 26, the third of 19 to 22, the fourth of 15 to 18, the fifth of 11 to 14
abbrev pub digit_of : ℕ → ℕ → ℕ
digit_of w i = number_at w (31 - 4 * i) (if i == 1 then 3 else 4)

-- the number that the first k digits write: digit k counts 1, and each digit before it ten times as much as the next
abbrev pub decimal_of : ℕ → ℕ → ℕ
decimal_of w k = sum_below k (λ j. digit_of w (k - j) * 10 ^ j)

-- each of the first k digits is at most 9
abbrev pub AreDecimal : ℕ → ℕ → Type 0
AreDecimal w k = (i : ℕ) → 1 ≤ i → i ≤ k → digit_of w i ≤ 9

-- the first of the k digits that is above 9
pub record IsFirstBad (w k place : ℕ) : Type 0 where
  pub least : 1 ≤ place
  pub most : place ≤ k
  pub above : 9 < digit_of w place
  pub before : AreDecimal w (place - 1)

-- what the first k digits are read as: the number that they write, or else the place of the first that is above 9
abbrev pub ReadsBcd : ℕ → ℕ → Result ℕ BadDigit → Type 0
ReadsBcd w k (Ok n) = AreDecimal w k × (n ≡ decimal_of w k)
ReadsBcd w k (Err e) = IsFirstBad w k e.0
