-- Recordings without a fault (profile).
use Rattle.std.specs.Prelude.{◌≡◌, ◌<◌, ◌^◌, ℕ, List, [], ◌∷◌, ◌++◌, map, true, Some}
use Rattle.a429_record.specs.declared.entry.Entry.{Entry}
use Rattle.a429_record.specs.Row.{Row, is_header, entry_in}
use Rattle.a429_record.specs.Binary.{magic, piece_entries}
use Rattle.a429_record.specs.Recording.{rows_of, IsRecordable}

-- the rows of a text are the header's, and then one for each of these entries
pub record IsWholeText (bytes : List ℕ) (es : List Entry) : Type 0 where
  pub header : Row
  pub rows : List Row
  pub all : rows_of bytes ≡ header ∷ rows
  pub first : is_header header ≡ true
  pub entries : map entry_in rows ≡ map Some es
  pub recordable : IsRecordable es

-- bytes are the eight of a binary recording, and then a piece for each of these entries
pub record AreBinary (bytes : List ℕ) (es : List Entry) : Type 0 where
  pub following : List ℕ
  pub all : bytes ≡ magic ++ following
  pub entries : piece_entries following ≡ map Some es

-- and a recording may hold them
abbrev pub IsWholeBinary : List ℕ → List Entry → Type 0
IsWholeBinary bytes es = AreBinary bytes es × IsRecordable es

-- numbers that the code's entries have: times of 64 bits and words of 32
abbrev pub AreEntries : List Entry → Type 0
AreEntries [] = Unit {0}
AreEntries (e ∷ es) = (e.time < 2 ^ 64) × (e.word < 2 ^ 32) × AreEntries es
