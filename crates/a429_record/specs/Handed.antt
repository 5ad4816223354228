-- What a reader has handed out (profile).
use Rattle.std.specs.Prelude.{◌≡◌, ◌<◌, ◌⊎◌, ℕ, List, [], ◌∷◌, ◌++◌, length, map, flat_map, true, false, ◌==◌, if◌then◌else◌, Option, Some, None, ⊤}
use Rattle.a429_record.specs.declared.entry.Entry.{Entry}
use Rattle.a429_record.specs.Ends.{HasNoEnd}
use Rattle.a429_record.specs.Row.{Row, line_rows, is_header, entry_in}
use Rattle.a429_record.specs.Binary.{is_binary, entry_bytes, piece_entry}
use Rattle.a429_record.specs.Recording.{rows_of, all_rows_stand_for, most_entries, IsWithin}
use Rattle.a429_record.specs.WholeRecordings.{AreBinary}

-- lines with a byte before the first of them, if there is one
abbrev pub onto_first : ℕ → List (List ℕ) → List (List ℕ)
onto_first b [] = []
onto_first b (l ∷ ls) = (b ∷ l) ∷ ls

-- the lines of a text that have their line feed, each without it
abbrev pub ended_lines : List ℕ → List (List ℕ)
ended_lines [] = []
ended_lines (b ∷ bs) = if b == 10 then [] ∷ ended_lines bs else onto_first b (ended_lines bs)

-- the rows of these lines
abbrev pub ended_rows : List ℕ → List Row
ended_rows bytes = flat_map line_rows (ended_lines bytes)

-- rows make no fault, whatever comes after them: there is none, or they are the header's and entries'
abbrev pub AreSound : ℕ → List Row → Type 0
AreSound most [] = ⊤
AreSound most (row ∷ rows) = (all_rows_stand_for most (row ∷ rows)).fault ≡ None

-- known bytes lose a prefix, which is handed out; it and what is left are so
abbrev pub Loses : (List ℕ → List ℕ → Type 0) → Option (List ℕ) → Option (List ℕ) → Type 0
Loses P None new = ⊤
Loses P (Some xs) None = ⊥
Loses P (Some xs) (Some ys) = (taken : List ℕ) × (xs ≡ taken ++ ys) × P taken ys

-- what is handed out is so, whatever is left
abbrev pub OfTaken : (List ℕ → Type 0) → List ℕ → List ℕ → Type 0
OfTaken P taken rest = P taken

-- bytes may be a prefix of those of the next entry after so many: they are too few for it, and none where no further entry is allowed
abbrev pub IsCut : ℕ → ℕ → List ℕ → Type 0
IsCut most count bytes = (length bytes < entry_bytes) × (count ≡ most → bytes ≡ [])

-- bytes are those of a binary recording, and then at most a prefix of an entry's
pub record IsCutBinary (most : ℕ) (bytes : List ℕ) : Type 0 where
  pub entries : List Entry
  pub front : List ℕ
  pub cut : List ℕ
  pub all : bytes ≡ front ++ cut
  pub whole : AreBinary front entries × IsWithin most entries
  pub short : IsCut most (length entries) cut

-- no line of a text that is handed out with its line feed makes a fault
abbrev pub HasNoTextFault : ℕ → List ℕ → Type 0
HasNoTextFault most taken = AreSound most (ended_rows taken)

-- nothing that is handed out makes a fault, whatever comes after it: of a binary recording no whole entry and no byte after the last
-- that is allowed, of a text no line with its line feed
abbrev pub HasNoFaultWithin : ℕ → List ℕ → Type 0
HasNoFaultWithin most taken = (is_binary taken ≡ true → IsCutBinary most taken) × (is_binary taken ≡ false → HasNoTextFault most taken)

-- of a recording of at most `most_entries`
abbrev pub HasNoFault : List ℕ → Type 0
HasNoFault taken = HasNoFaultWithin most_entries taken

-- no line that is handed out with its line feed has a row
abbrev pub HasNoRow : List ℕ → Type 0
HasNoRow taken = ended_rows taken ≡ []

-- this line is handed out, with its line feed, which the last of all may lack
abbrev pub IsLineHanded : List ℕ → List ℕ → List ℕ → Type 0
IsLineHanded line taken rest = HasNoEnd line × ((taken ≡ line ++ (10 ∷ [])) ⊎ ((0 < length line) × (taken ≡ line) × (rest ≡ [])))

-- a text is empty, or ends in a line feed
abbrev pub IsEnded : List ℕ → Type 0
IsEnded bytes = (bytes ≡ []) ⊎ ((front : List ℕ) × (bytes ≡ front ++ (10 ∷ [])))

-- lines are handed out, each with its line feed, which the last of all may lack; their rows are so
abbrev pub AreLines : (List Row → Type 0) → List ℕ → List ℕ → Type 0
AreLines P taken rest = (IsEnded taken ⊎ (rest ≡ [])) × P (rows_of taken)

-- one row, the header's
abbrev pub AreHeader : List Row → Type 0
AreHeader rows = (row : Row) × (rows ≡ row ∷ []) × (is_header row ≡ true)

-- one row, this entry's
abbrev pub AreEntryOf : Entry → List Row → Type 0
AreEntryOf e rows = map entry_in rows ≡ Some e ∷ []

-- rows are the header's and these entries'
pub record AreGiven (es : List Entry) (rows : List Row) : Type 0 where
  pub header : Row
  pub more : List Row
  pub all : rows ≡ header ∷ more
  pub first : is_header header ≡ true
  pub entries : map entry_in more ≡ map Some es

-- the piece of this entry is handed out
abbrev pub ArePieceOf : Entry → List ℕ → List ℕ → Type 0
ArePieceOf e taken rest = piece_entry taken ≡ Some e
