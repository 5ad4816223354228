-- The recorded words, screened by a label, so many at a time (profile).
use Rattle.std.specs.Prelude.{◌≡◌, ℕ, List, length, take, drop, map}
use Rattle.a429_word.specs.Screening.{screened}
use Rattle.a429_record.specs.declared.entry.Entry.{Entry}

pub record ScreenedEntries : Type 0 where
  pub entries : List Entry
  pub label : ℕ

-- the entries from a place on that are screened together
abbrev pub window_at : List Entry → ℕ → List Entry
window_at es from = take 256 (drop from es)

-- the first answers are those for the words of these entries
abbrev pub AreAnswers : ℕ → List Entry → List ℕ → Type 0
AreAnswers label es answers = take (length es) answers ≡ map (λ e. screened label e.word) es
