-- The list of a recording's parts, `parts.txt` (profile): a line for each part says its number, how many entries it has, and how many come before it.
use Rattle.std.specs.Prelude.{◌≡◌, ◌≢◌, ◌⊎◌, ◌≤◌, ◌<◌, ◌^◌, ◌+◌, ◌++◌, ℕ, suc, List, [], ◌∷◌, codes}
use Rattle.std.specs.List.{AllByRecursion}
use Rattle.std.specs.Fmt.{decimal}
use Rattle.std.specs.Char.{digit_value}
use Rattle.a429_record.specs.Recording.{most_entries}

-- the line of part k, which has n entries, after so many entries of the parts before it
abbrev pub part_line : ℕ → ℕ → ℕ → List ℕ
part_line k from n = codes "part " ++ decimal k ++ codes " entries " ++ decimal n ++ codes " from " ++ decimal from ++ codes "\n"

-- the lines of parts that have so many entries, from part k on
abbrev pub part_lines : ℕ → ℕ → List ℕ → List ℕ
part_lines k from [] = []
part_lines k from (n ∷ counts) = part_line k from n ++ part_lines (suc k) (from + n) counts

-- the entries of all parts
abbrev pub all_entries : List ℕ → ℕ
all_entries [] = 0
all_entries (n ∷ counts) = n + all_entries counts

-- how many entries the parts of a recording may have: at least one and at most 1,000,000; a recording without entries is one part without entries
abbrev pub ArePartSizes : List ℕ → Type 0
ArePartSizes counts = (counts ≡ 0 ∷ []) ⊎ ((counts ≢ []) × AllByRecursion (λ n. (1 ≤ n) × (n ≤ most_entries)) counts)

-- a text that lists parts with so many entries; a number in it has at most 19 digits
pub record ListsParts (text : List ℕ) (counts : List ℕ) : Type 0 where
  pub spelled : text ≡ part_lines 1 0 counts
  pub sizes : ArePartSizes counts
  pub few : all_entries counts < 10 ^ 19

-- no digit comes first
abbrev pub BeginsWithNoDigit : List ℕ → Type 0
BeginsWithNoDigit [] = Unit {0}
BeginsWithNoDigit (b ∷ text) = digit_value b < 10 → ⊥
