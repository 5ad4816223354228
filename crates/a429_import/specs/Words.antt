-- The words of entries, as their rows have them (profile).
use Rattle.std.specs.Prelude.{◌≡◌, ℕ, ◌+◌, List, [], ◌∷◌, Option, Some, None, Ok, ⊤}
use Rattle.a429_import.specs.declared.columns.Columns.{Columns}
use Rattle.a429_import.specs.declared.lot.Lot.{Lot}
use Rattle.a429_import.specs.declared.lot.Lot.TheVariants as lot
use Rattle.a429_import.specs.declared.map.Map.{Map}
use Rattle.a429_import.specs.declared.progress.Progress.{Progress}
use Rattle.a429_import.specs.Fields.{fields_in}
use Rattle.a429_import.specs.Import.{progress_after}
use Rattle.a429_import.specs.Row.{word_of}

-- a word is the one that the parts of a row make; there is none before the columns are known
abbrev pub IsRowWord : Map → Option Columns → ℕ → List (List ℕ) → ℕ → Type 0
IsRowWord m (Some c) n fields w = word_of m c n fields ≡ Ok w
IsRowWord m None n fields w = ⊥

-- where a row becomes an entry, it has this word
abbrev pub HasRowWord : Map → Option Columns → ℕ → List (List ℕ) → Lot → Type 0
HasRowWord m known n fields (lot.Written e is_cut v mend) = IsRowWord m known n fields e.word
HasRowWord m known n fields _ = ⊤

-- lines become these, each entry among which has the word of its row
abbrev pub HaveRowWords : Map → Progress → List (List ℕ) → List Lot → Type 0
HaveRowWords m s (line ∷ lines) (l ∷ lots) = HasRowWord m s.columns (s.lines + 1) (fields_in m.rows line) l × HaveRowWords m (progress_after m s line l) lines lots
HaveRowWords m s [] (l ∷ lots) = ⊥
HaveRowWords m s lines [] = ⊤
