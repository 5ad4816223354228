-- A row of a recording, and the entry that it names (profile).
use Rattle.std.specs.Prelude.{ℕ, ◌^◌, List, [], ◌∷◌, length, Bool, false, ◌&&◌, ◌==◌, nat_le, nat_lt, if◌then◌else◌, Option, Some, None, codes, bytes_eq}
use Rattle.std.specs.List.{list_all}
use Rattle.std.specs.Char.{digit_value}
use Rattle.std.specs.Str.Parse.{digits_value}
use Rattle.csv.specs.Reading.{default_config, records, strip_bom}
use Rattle.a429_word.specs.declared.bus.Bus.{Bus}
use Rattle.a429_word.specs.declared.bus.Bus.TheVariants.{A, B}
use Rattle.a429_record.specs.declared.entry.Entry.{Entry}

-- the records of a line, which `csv` reads as a text of its own
abbrev pub records_of : List ℕ → List (List (List ℕ))
records_of line = records default_config (strip_bom line)

-- a row: the fields of a line's one record, or None where the line has more than one
abbrev pub Row : Type 0
Row = Option (List (List ℕ))

-- the rows of a line with these records: none where there is no record, else one
abbrev pub rows_in : List (List (List ℕ)) → List Row
rows_in [] = []
rows_in (fields ∷ []) = Some fields ∷ []
rows_in (one ∷ two ∷ more) = None ∷ []

-- the rows of a line: none or one
abbrev pub line_rows : List ℕ → List Row
line_rows line = rows_in (records_of line)

-- the header has these three fields
abbrev pub is_header : Row → Bool
is_header (Some (t ∷ b ∷ w ∷ [])) = bytes_eq t (codes "time") && bytes_eq b (codes "bus") && bytes_eq w (codes "word")
is_header _ = false

-- each byte is a digit in the base
abbrev pub all_digits : ℕ → List ℕ → Bool
all_digits base text = list_all (λ b. nat_lt (digit_value b) base) text

-- a time: 1 to 20 decimal digits, below 2^64
abbrev pub time_in : List ℕ → Option ℕ
time_in text =
    if nat_le 1 (length text) && nat_le (length text) 20 && all_digits 10 text && nat_lt (digits_value 10 text) (2 ^ 64)
    then Some (digits_value 10 text) else None

-- a bus: its letter
abbrev pub bus_in : List ℕ → Option Bus
bus_in (b ∷ []) = if b == 65 then Some A else if b == 66 then Some B else None
bus_in _ = None

-- a word: eight hexadecimal digits, of either case
abbrev pub word_in : List ℕ → Option ℕ
word_in text = if length text == 8 && all_digits 16 text then Some (digits_value 16 text) else None

-- the entry with this time, bus and word, where each is there
abbrev pub entry_with : Option ℕ → Option Bus → Option ℕ → Option Entry
entry_with (Some t) (Some b) (Some w) = Some (record { time = t; bus = b; word = w })
entry_with _ _ _ = None

-- the entry of a row
abbrev pub entry_in : Row → Option Entry
entry_in (Some (t ∷ b ∷ w ∷ [])) = entry_with (time_in t) (bus_in b) (word_in w)
entry_in _ = None
