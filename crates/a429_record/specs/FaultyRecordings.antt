-- Recordings with a fault (profile).
use Rattle.std.specs.Prelude.{◌≡◌, ◌<◌, ℕ, List, [], ◌∷◌, ◌++◌, map, length, true, false, Option, Some, None, ⊤}
use Rattle.a429_record.specs.declared.entry.Entry.{Entry}
use Rattle.a429_record.specs.declared.fault.ReadFault.{ReadFault}
use Rattle.a429_record.specs.declared.fault.ReadFault.TheVariants as fault
use Rattle.a429_record.specs.Row.{Row, is_header, entry_in}
use Rattle.a429_record.specs.Binary.{magic, piece_entries}
use Rattle.a429_record.specs.Recording.{Recording, rows_of, most_entries, IsRecordable, stands_for}

-- these entries, and then a fault
abbrev pub stops_after : List Entry → ReadFault → Recording
stops_after es f = record { entries = es; fault = Some f }

-- bytes stand for these entries, and then this fault
abbrev pub StopAfter : List ℕ → List Entry → ReadFault → Type 0
StopAfter bytes es f = stands_for bytes ≡ stops_after es f

-- rows begin with these entries, which a recording may hold, and then comes one with this entry, or with none
pub record ComesAfter (es : List Entry) (entry : Option Entry) (rows : List (Option Entry)) : Type 0 where
  pub following : List (Option Entry)
  pub all : rows ≡ map Some es ++ (entry ∷ following)
  pub recordable : IsRecordable es

-- the last of these entries has a time above t
abbrev pub EndsAbove : ℕ → List Entry → Type 0
EndsAbove t es = (earlier : List Entry) × (last : Entry) × (es ≡ earlier ++ (last ∷ [])) × (t < last.time)

-- after these entries a row makes a fault: it is one too many, is no entry, or has a time below the one before
abbrev pub IsRefusedRow : List Entry → Option Entry → ReadFault → Type 0
IsRefusedRow es entry fault.TooMany = length es ≡ most_entries
IsRefusedRow es entry (fault.Row i) = (i ≡ length es) × (i < most_entries) × (entry ≡ None)
IsRefusedRow es entry (fault.TimeBack i) = (i ≡ length es) × (i < most_entries) × ((e : Entry) × (entry ≡ Some e) × EndsAbove e.time es)
IsRefusedRow es entry fault.Header = ⊥
IsRefusedRow es entry fault.Device = ⊥
IsRefusedRow es entry fault.OutOfMemory = ⊥
IsRefusedRow es entry fault.Failed = ⊥

-- after these entries a row makes this fault
pub record IsRefusedAmong (rows : List (Option Entry)) (es : List Entry) (f : ReadFault) : Type 0 where
  pub entry : Option Entry
  pub comes : ComesAfter es entry rows
  pub refused : IsRefusedRow es entry f

-- there is no first row, or it is not the header
abbrev pub HasNoHeader : List Row → Type 0
HasNoHeader [] = ⊤
HasNoHeader (row ∷ rows) = is_header row ≡ false

-- rows of a text are the header's, and after it one makes a fault after these entries
pub record IsRefusedAfter (rows : List Row) (es : List Entry) (f : ReadFault) : Type 0 where
  pub header : Row
  pub more : List Row
  pub all : rows ≡ header ∷ more
  pub first : is_header header ≡ true
  pub among : IsRefusedAmong (map entry_in more) es f

-- the bytes of a text are entries, and then a fault
abbrev pub IsFaultyText : List ℕ → List Entry → ReadFault → Type 0
IsFaultyText bytes es fault.Header = (es ≡ []) × HasNoHeader (rows_of bytes)
IsFaultyText bytes es f = IsRefusedAfter (rows_of bytes) es f

-- bytes are the eight of a binary recording, and after them a piece makes a fault after these entries
pub record IsFaultyBinary (bytes : List ℕ) (es : List Entry) (f : ReadFault) : Type 0 where
  pub following : List ℕ
  pub all : bytes ≡ magic ++ following
  pub among : IsRefusedAmong (piece_entries following) es f
