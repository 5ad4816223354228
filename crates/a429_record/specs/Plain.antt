-- Plain rows (profile): three fields, a comma between them, and nothing around them.
use Rattle.std.specs.Prelude.{◌≡◌, ◌⊎◌, ℕ, List, [], ◌∷◌, ◌++◌, length, Some}
use Rattle.a429_record.specs.declared.entry.Entry.{Entry}
use Rattle.a429_word.specs.declared.bus.Bus.{Bus}
use Rattle.a429_record.specs.Row.{time_in, bus_in, entry_in}

-- bytes are three fields, a comma before the second and before the third, and the fields are this entry's
pub record IsPlainRow (bytes : List ℕ) (e : Entry) : Type 0 where
  pub time : List ℕ
  pub bus : List ℕ
  pub word : List ℕ
  pub layout : bytes ≡ time ++ (44 ∷ (bus ++ (44 ∷ word)))
  pub says : entry_in (Some (time ∷ bus ∷ word ∷ [])) ≡ Some e

-- what may come after a plain row on its line
abbrev pub IsLineEnd : List ℕ → Type 0
IsLineEnd tail = (tail ≡ []) ⊎ (tail ≡ 13 ∷ [])

-- bytes are those of a plain row with this time and this bus, and with these eight bytes for its word
pub record IsFront (bytes : List ℕ) (time : ℕ) (bus : Bus) (word : List ℕ) : Type 0 where
  pub digits : List ℕ
  pub letter : List ℕ
  pub layout : bytes ≡ digits ++ (44 ∷ (letter ++ (44 ∷ word)))
  pub timed : time_in digits ≡ Some time
  pub heard : bus_in letter ≡ Some bus
  pub eight : length word ≡ 8
