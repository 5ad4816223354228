-- A search for a list of at most so many words that has several.
use Rattle.std.specs.Prelude.{◌≡◌, ◌⊎◌, ℕ, ◌+◌, ◌<◌, ◌≤◌, List, ◌++◌, length, take, drop, slice_index, All, Contains, Option}
use Rattle.a429_profile.specs.Profile.{Contents}
use Rattle.a429_link.specs.Run.{IsSubsequenceOf}
use Rattle.a429_merge.specs.declared.bounded.Pair.{Pair}
use Rattle.a429_merge.specs.declared.bounded.Step.{Step}
use Rattle.a429_merge.specs.Fill.{Fits}
use Rattle.a429_merge.specs.Order.{lists_of, words_at, IsNext, passed_with}
use Rattle.a429_merge.specs.Pair.{IsTable}

-- two of the lists, with the lengths of shortest lists for what is left of them
pub record IsPair (lists : List (List ℕ)) (p : Pair) : Type 0 where
  pub in_left : p.left < length lists
  pub in_right : p.right < length lists
  pub table : IsTable (words_at lists p.left) (words_at lists p.right) (lists_of p.rows.items)

-- how many words are passed of each list
pub record ArePassed (lists : List (List ℕ)) (passed : List ℕ) : Type 0 where
  pub counted : length passed ≡ length lists
  pub within : (i : ℕ) → i < length lists → slice_index passed i ≤ length (words_at lists i)

-- a list has the passed words of each
abbrev pub HasPassed : List (List ℕ) → List ℕ → List ℕ → Type 0
HasPassed lists passed merged = (i : ℕ) → i < length lists → IsSubsequenceOf (take (slice_index passed i) (words_at lists i)) merged

-- a list has the rest of each
abbrev pub HasRests : List (List ℕ) → List ℕ → List ℕ → Type 0
HasRests lists passed zs = (i : ℕ) → i < length lists → IsSubsequenceOf (drop (slice_index passed i) (words_at lists i)) zs

-- a word that is next in list i is passed wherever it is next
pub record IsStep (lists : List (List ℕ)) (passed : List ℕ) (i word : ℕ) (after : List ℕ) : Type 0 where
  pub next : IsNext lists passed i word
  pub are : ArePassed lists after
  pub passes : (j : ℕ) → j < length lists → slice_index after j ≡ passed_with (words_at lists j) (slice_index passed j) word

-- ---- an exact search

-- the step, and no list that has what is left after it of each list is shorter than `left`
pub record IsBoundedStep (lists : List (List ℕ)) (passed : List ℕ) (i : ℕ) (s : Step) : Type 0 where
  pub step : IsStep lists passed i s.word s.passed.items
  pub bound : (zs : List ℕ) → HasRests lists s.passed.items zs → s.left ≤ length zs

-- each is a step from there
abbrev pub AreSteps : List (List ℕ) → List ℕ → List Step → Type 0
AreSteps lists passed steps = All (λ s. (i : ℕ) × (i < length lists) × IsBoundedStep lists passed i s) steps

-- one of them passes this word
abbrev pub HasStepOf : ℕ → List Step → Type 0
HasStepOf w steps = (s : Step) × Contains steps s × (s.word ≡ w)

-- merged words, and more after them, are fewer than wanted, or as many and fit
abbrev pub Reaches : Contents → ℕ → Option ℕ → List ℕ → List ℕ → Type 0
Reaches p count wanted merged more = (length merged + length more < count) ⊎ ((length merged + length more ≡ count) × Fits p wanted (merged ++ more))

-- no words that have what is left of each list do so after these
abbrev pub IsHopeless : Contents → ℕ → Option ℕ → List (List ℕ) → List ℕ → List ℕ → Type 0
IsHopeless p count wanted lists passed merged = (more : List ℕ) → HasRests lists passed more → ¬ Reaches p count wanted merged more
