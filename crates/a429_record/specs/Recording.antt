-- What the bytes of a recording stand for (profile).
use Rattle.std.specs.Prelude.{◌≡◌, ℕ, ◌+◌, ◌≤◌, List, [], ◌∷◌, length, drop, map, flat_map, nat_lt, ◌==◌, if◌then◌else◌, Option, Some, None}
use Rattle.a429_record.specs.declared.entry.Entry.{Entry}
use Rattle.a429_record.specs.declared.fault.ReadFault.{ReadFault}
use Rattle.a429_record.specs.declared.fault.ReadFault.TheVariants as fault
use Rattle.a429_record.specs.Row.{Row, line_rows, is_header, entry_in}
use Rattle.a429_record.specs.Binary.{is_binary, piece_entries}

-- lines with a byte before the first of them
abbrev pub with_first : ℕ → List (List ℕ) → List (List ℕ)
with_first b [] = (b ∷ []) ∷ []
with_first b (l ∷ ls) = (b ∷ l) ∷ ls

-- the lines of a text, each without its line feed, which the last may lack
abbrev pub recording_lines : List ℕ → List (List ℕ)
recording_lines [] = []
recording_lines (b ∷ bs) = if b == 10 then [] ∷ recording_lines bs else with_first b (recording_lines bs)

-- the rows of a text, line by line
abbrev pub rows_of : List ℕ → List Row
rows_of bytes = flat_map line_rows (recording_lines bytes)

-- entries, and the fault that comes after them, if one does
pub record Recording : Type 0 where
  pub entries : List Entry
  pub fault : Option ReadFault

-- more entries come than may be
abbrev pub IsTooMany : Recording → Type 0
IsTooMany r = r.fault ≡ Some fault.TooMany

-- these entries and no fault
abbrev pub whole : List Entry → Recording
whole es = record { entries = es; fault = None }

-- a fault at once
abbrev pub stops : ReadFault → Recording
stops f = record { entries = []; fault = Some f }

-- an entry, and then the rest
abbrev pub with_entry : Entry → Recording → Recording
with_entry e rest = record { entries = e ∷ rest.entries; fault = rest.fault }

-- how many entries a recording may have, where nothing else is said
abbrev pub most_entries : ℕ
most_entries = 1000000

-- times that never fall, from `last` on
abbrev pub NeverFalls : ℕ → List Entry → Type 0
NeverFalls last [] = Unit {0}
NeverFalls last (e ∷ es) = (last ≤ e.time) × NeverFalls e.time es

-- entries that a recording of at most so many may hold
abbrev pub IsWithin : ℕ → List Entry → Type 0
IsWithin most entries = (length entries ≤ most) × NeverFalls 0 entries

-- entries that a recording may hold
abbrev pub IsRecordable : List Entry → Type 0
IsRecordable entries = IsWithin most_entries entries

-- a row after n entries, the last of them at the time `last`: after its entry comes what `more` says for it
abbrev pub row_stands_for : ℕ → ℕ → Option Entry → (Entry → Recording) → Recording
row_stands_for n last None more = stops (fault.Row n)
row_stands_for n last (Some e) more = if nat_lt e.time last then stops (fault.TimeBack n) else with_entry e (more e)

-- what rows with these entries, or with none, stand for after n entries of at most so many, the last of them at the time `last`
abbrev pub entries_stand_for : ℕ → ℕ → ℕ → List (Option Entry) → Recording
entries_stand_for most n last [] = whole []
entries_stand_for most n last (entry ∷ more) = if n == most then stops fault.TooMany else row_stands_for n last entry (λ e. entries_stand_for most (n + 1) e.time more)

-- what rows of a text stand for after n entries, the last of them at the time `last`
abbrev pub rows_stand_for : ℕ → ℕ → ℕ → List Row → Recording
rows_stand_for most n last rows = entries_stand_for most n last (map entry_in rows)

-- what all rows of a text stand for: the header comes first
abbrev pub all_rows_stand_for : ℕ → List Row → Recording
all_rows_stand_for most [] = stops fault.Header
all_rows_stand_for most (row ∷ rows) = if is_header row then rows_stand_for most 0 0 rows else stops fault.Header

-- what the bytes of a text recording stand for
abbrev pub text_stands_for : ℕ → List ℕ → Recording
text_stands_for most bytes = all_rows_stand_for most (rows_of bytes)

-- what the bytes of a binary recording stand for
abbrev pub binary_stands_for : ℕ → List ℕ → Recording
binary_stands_for most bytes = entries_stand_for most 0 0 (piece_entries (drop 8 bytes))

-- what bytes stand for in a recording of at most so many entries: their first eight choose the format
abbrev pub stands_within : ℕ → List ℕ → Recording
stands_within most bytes = if is_binary bytes then binary_stands_for most bytes else text_stands_for most bytes

-- what bytes stand for
abbrev pub stands_for : List ℕ → Recording
stands_for bytes = stands_within most_entries bytes
