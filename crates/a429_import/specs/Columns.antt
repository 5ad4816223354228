-- The columns of an export, and where they are (profile).
use Rattle.std.specs.Prelude.{ℕ, ◌+◌, ◌-◌, max, List, [], ◌∷◌, bytes_eq, slice_get, Option, Some, None, unwrap_or, if◌then◌else◌}
use Rattle.a429_import.specs.declared.column.Column.{Column}
use Rattle.a429_import.specs.declared.column.Column.TheVariants as column
use Rattle.a429_import.specs.declared.columns.Columns.{Columns}
use Rattle.a429_import.specs.declared.map.Map.{Map}
use Rattle.a429_import.specs.declared.parity.ParityBit.{ParityBit}
use Rattle.a429_import.specs.declared.parity.ParityBit.TheVariants as bit_32
use Rattle.a429_import.specs.declared.part.Part.{Part}

-- places are counted from 0; a field that a row lacks is empty
abbrev pub field_at : List (List ℕ) → ℕ → List ℕ
field_at fields place = unwrap_or (slice_get fields place) []

-- the place of the first of these names that is one, counted on from n
abbrev pub name_at : ℕ → List ℕ → List (List ℕ) → Option ℕ
name_at n name [] = None
name_at n name (f ∷ names) = if bytes_eq f name then Some n else name_at (n + 1) name names

-- where a column is, when these are the names: the first with its name, or its number
abbrev pub place_of : List (List ℕ) → Column → Option ℕ
place_of names (column.Name name) = name_at 0 name names
place_of names (column.Number n) = Some (n - 1)

-- the status column; 0 where none is needed
abbrev pub status_place : List (List ℕ) → ParityBit → Option ℕ
status_place names (bit_32.Status s) = place_of names s.column
status_place names _ = Some 0

abbrev pub with_place : Option ℕ → Option (List ℕ) → Option (List ℕ)
with_place (Some p) (Some ps) = Some (p ∷ ps)
with_place _ _ = None

abbrev pub part_places : List (List ℕ) → List Part → Option (List ℕ)
part_places names [] = Some []
part_places names (p ∷ ps) = with_place (place_of names p.column) (part_places names ps)

-- the largest of some places, or 0
abbrev pub largest : List ℕ → ℕ
largest [] = 0
largest (p ∷ ps) = max p (largest ps)

-- all columns of a map, where each was found
abbrev pub columns_at : Option ℕ → Option ℕ → Option ℕ → Option (List ℕ) → Option Columns
columns_at (Some channel) (Some time) (Some status) (Some parts) = Some (record {
  channel = channel;
  time = time;
  status = status;
  parts = parts;
  last = largest (channel ∷ time ∷ status ∷ parts);
})
columns_at _ _ _ _ = None

abbrev pub columns_in : Map → List (List ℕ) → Option Columns
columns_in m names = columns_at (place_of names m.channels.column) (place_of names m.time.column) (status_place names m.parity) (part_places names m.parts)
