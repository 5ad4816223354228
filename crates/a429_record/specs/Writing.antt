-- How a recording is written (profile).
use Rattle.std.specs.Prelude.{ℕ, List, [], ◌++◌, ◌∷◌, ◌≡◌, ◌⊎◌, flat_map, codes}
use Rattle.std.specs.Fmt.{decimal}
use Rattle.a429_word.specs.Digits.{hex_text}
use Rattle.a429_word.specs.Bus.{bus_text}
use Rattle.a429_record.specs.declared.entry.Entry.{Entry}

-- the fields of the header
abbrev pub header_fields : List (List ℕ)
header_fields = codes "time" ∷ codes "bus" ∷ codes "word" ∷ []

-- the fields of an entry
abbrev pub entry_fields : Entry → List (List ℕ)
entry_fields e = decimal e.time ∷ bus_text e.bus ∷ hex_text e.word ∷ []

-- the header's line
abbrev pub header_text : List ℕ
header_text = codes "time,bus,word\n"

-- the time, the bus and the word of an entry, with one byte between them and one after them
abbrev pub entry_text : ℕ → ℕ → Entry → List ℕ
entry_text between following e = decimal e.time ++ between ∷ [] ++ bus_text e.bus ++ between ∷ [] ++ hex_text e.word ++ following ∷ []

-- the line of an entry
abbrev pub line_text : Entry → List ℕ
line_text e = decimal e.time ++ codes "," ++ bus_text e.bus ++ codes "," ++ hex_text e.word ++ codes "\n"

-- a line is an entry's, or there is none
abbrev pub IsLineOf : List ℕ → Entry → Type 0
IsLineOf line e = (line ≡ []) ⊎ (line ≡ line_text e)

-- the header's line, and then a line for each entry
abbrev pub written_form : List Entry → List ℕ
written_form entries = header_text ++ flat_map line_text entries

-- the header's line, a line for each of the entries before some lines, these, and a line for each of those after them
abbrev pub lined_form : List Entry → List ℕ → List Entry → List ℕ
lined_form before lines after = header_text ++ (flat_map line_text before ++ (lines ++ flat_map line_text after))
