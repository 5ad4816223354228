-- The fields of a line (profile).
use Rattle.std.specs.Prelude.{ℕ, suc, ◌==◌, List, [], ◌∷◌, map, drop, Bool, ◌&&◌, ◌||◌, Option, Some, None, if◌then◌else◌}
use Rattle.std.specs.List.{list_all}
use Rattle.csv.specs.declared.parser.Config.{Config}
use Rattle.csv.specs.declared.parser.State.TheVariants as st
use Rattle.csv.specs.declared.parser.Terminator.TheVariants as term
use Rattle.csv.specs.Machine.{Read, next_record}
use Rattle.csv.specs.Reading.{default_config, strip_bom}
use Rattle.csv.specs.Records.{fields_of}
use Rattle.a429_import.specs.declared.fields.Fields.{Fields}
use Rattle.a429_import.specs.declared.fields.Fields.TheVariants as at
use Rattle.a429_import.specs.declared.map.RowRule.{RowRule}
use Rattle.a429_import.specs.declared.map.Separator.{Separator}
use Rattle.a429_import.specs.declared.map.Separator.TheVariants as separators
use Rattle.a429_import.specs.Piece.{before_first, pieces_from}

-- ---- blanks

-- a blank or a tab
abbrev pub is_blank : ℕ → Bool
is_blank b = (b == 32) || (b == 9)

abbrev pub is_return : ℕ → Bool
is_return b = b == 13

-- a text without the bytes at its start that are so
abbrev pub without_first : (ℕ → Bool) → List ℕ → List ℕ
without_first is [] = []
without_first is (b ∷ bs) = if is b then without_first is bs else b ∷ bs

-- and without those at its end
abbrev pub without_last : (ℕ → Bool) → List ℕ → List ℕ
without_last is [] = []
without_last is (b ∷ bs) = if list_all is (b ∷ bs) then [] else b ∷ without_last is bs

abbrev pub trimmed : List ℕ → List ℕ
trimmed text = without_last is_blank (without_first is_blank text)

-- ---- a line

-- the line as `csv` reads it: without the carriage returns at its end
abbrev pub without_returns : List ℕ → List ℕ
without_returns line = without_last is_return line

-- and without a byte order mark
abbrev pub text_of : List ℕ → List ℕ
text_of line = strip_bom (without_returns line)

-- ---- its fields

-- a byte before some words, and before the bytes of which they are
abbrev pub word_before : ℕ → List ℕ → List (List ℕ) → List (List ℕ)
word_before b [] words = (b ∷ []) ∷ words
word_before b (c ∷ cs) words = if is_blank c then (b ∷ []) ∷ words else before_first b words

-- the words of a text, between blanks
abbrev pub words : List ℕ → List (List ℕ)
words [] = []
words (b ∷ bs) = if is_blank b then words bs else word_before b bs (words bs)

-- how many bytes come before the first blank
abbrev pub word_length : List ℕ → ℕ
word_length [] = 0
word_length (b ∷ bs) = if is_blank b then 0 else suc (word_length bs)

-- `csv` with this byte between fields, and with quotes or without; a carriage return is a byte like others
abbrev pub csv_config : ℕ → Bool → Config
csv_config b quotes = record default_config { delimiter = b; quoting = quotes; terminator = term.Any 10 }

-- a byte that counts for it, besides that between fields
abbrev pub is_mark : Bool → ℕ → Bool
is_mark quotes c = (c == 10) || (quotes && (c == 34))

abbrev pub fields_read : Option Read → List (List ℕ)
fields_read None = []
fields_read (Some r) = r.0

-- the fields of the first record that `csv` reads in a text
abbrev pub csv_fields : ℕ → Bool → List ℕ → List (List ℕ)
csv_fields b quotes text = fields_read (next_record (csv_config b quotes) st.StartRecord [] [] text)

abbrev pub fields_by : Separator → Bool → List ℕ → List (List ℕ)
fields_by separators.Blanks quotes text = words text
fields_by (separators.Byte b) quotes text = map trimmed (csv_fields b quotes text)

abbrev pub fields_in : RowRule → List ℕ → List (List ℕ)
fields_in r line = fields_by r.separator r.quotes (text_of line)

-- ---- the fields that a reader has still to come to

abbrev pub fields_left : Fields → List (List ℕ)
fields_left (at.Cut text start starts) = map trimmed (pieces_from text.now start starts.now)
fields_left (at.Words text) = words text.now
fields_left (at.Record row place) = map trimmed (drop place (fields_of row.now))
fields_left at.End = []
