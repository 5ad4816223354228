-- Which values a key of a map may have (profile): a kind of value, and a range.
use Rattle.std.specs.Prelude.{ℕ, List, [], ◌∷◌, map, Bool, true, false, ◌&&◌, nat_lt, not, ◌==◌, ◌||◌, bytes_eq, codes, Option, Some, None, is_some, if◌then◌else◌}
use Rattle.toml.specs.Data.{Data, as_bool}
use Rattle.a429_profile.specs.Value.{text_of_value, number_of_value, elements_of, is_integer, is_text, is_array_of, is_number_between}
use Rattle.a429_import.specs.declared.base.Base.{Base}
use Rattle.a429_import.specs.declared.base.Base.TheVariants as bases
use Rattle.a429_import.specs.declared.clock_time.DateForm.{DateForm}
use Rattle.a429_import.specs.declared.clock_time.DateForm.TheVariants as dates
use Rattle.a429_import.specs.declared.clock_time.DateOrder.TheVariants as orders
use Rattle.a429_import.specs.declared.column.Column.{Column}
use Rattle.a429_import.specs.declared.column.Column.TheVariants as columns
use Rattle.a429_import.specs.declared.map.Separator.{Separator}
use Rattle.a429_import.specs.declared.map.Separator.TheVariants as separators
use Rattle.a429_import.specs.declared.time.Unit.{Unit}
use Rattle.a429_import.specs.declared.time.Unit.TheVariants as units
use Rattle.a429_import.specs.declared.value.FormWord.{FormWord}
use Rattle.a429_import.specs.declared.value.FormWord.TheVariants as forms
use Rattle.a429_import.specs.declared.value.BitWord.{BitWord}
use Rattle.a429_import.specs.declared.value.BitWord.TheVariants as words

-- the rules, one for each wording in the table of keys
pub data Rule : Type 0 where
  truth : Rule
  number : ℕ → ℕ → Rule
  -- 0, or 1,000 to 2^62
  wraps : Rule
  text : Rule
  texts : Rule
  -- a column's name where a row names the columns, else its number
  column : Bool → Rule
  separator : Rule
  form : Rule
  date : Rule
  unit : Rule
  point : Rule
  bit_word : Rule
  base : Rule
  -- one character of ASCII, or none
  split : Rule

-- ---- texts and numbers that stand for something

-- the separator that a text names: one ASCII character, but for a quote, a carriage return and a line feed; or a word
abbrev pub is_separator_byte : ℕ → Bool
is_separator_byte b = nat_lt b 128 && not (b == 34 || b == 13 || b == 10)

abbrev pub separator_byte : List ℕ → Option Separator
separator_byte (b ∷ []) = if is_separator_byte b then Some (separators.Byte b) else None
separator_byte _ = None

abbrev pub separator_of : List ℕ → Option Separator
separator_of t =
    if bytes_eq t (codes "tab") then Some (separators.Byte 9)
    else (if bytes_eq t (codes "blanks") then Some separators.Blanks else separator_byte t)

abbrev pub form_of : List ℕ → Option FormWord
form_of t =
    if bytes_eq t (codes "integer") then Some forms.Integer
    else (if bytes_eq t (codes "decimal") then Some forms.Decimal
    else (if bytes_eq t (codes "clock") then Some forms.Clock else None))

abbrev pub date_of : List ℕ → Option DateForm
date_of t =
    if bytes_eq t (codes "none") then Some dates.None
    else (if bytes_eq t (codes "mdy") then Some (dates.Calendar orders.MonthDayYear)
    else (if bytes_eq t (codes "dmy") then Some (dates.Calendar orders.DayMonthYear)
    else (if bytes_eq t (codes "ymd") then Some (dates.Calendar orders.YearMonthDay)
    else (if bytes_eq t (codes "day") then Some dates.DayOfYear else None))))

abbrev pub unit_of : List ℕ → Option Unit
unit_of t =
    if bytes_eq t (codes "s") then Some units.Second
    else (if bytes_eq t (codes "ms") then Some units.Millisecond
    else (if bytes_eq t (codes "us") then Some units.Microsecond
    else (if bytes_eq t (codes "ns") then Some units.Nanosecond else None)))

abbrev pub point_of : List ℕ → Option ℕ
point_of t = if bytes_eq t (codes ".") then Some 46 else (if bytes_eq t (codes ",") then Some 44 else None)

abbrev pub bit_word_of : List ℕ → Option BitWord
bit_word_of t =
    if bytes_eq t (codes "parity") then Some words.Parity
    else (if bytes_eq t (codes "error_set") then Some words.ErrorSet
    else (if bytes_eq t (codes "error_clear") then Some words.ErrorClear
    else (if bytes_eq t (codes "absent") then Some words.Absent
    else (if bytes_eq t (codes "column") then Some words.Column else None))))

abbrev pub base_of : ℕ → Option Base
base_of n =
    if n == 2 then Some bases.Binary
    else (if n == 8 then Some bases.Octal
    else (if n == 10 then Some bases.Decimal
    else (if n == 16 then Some bases.Hexadecimal else None)))

-- a character of ASCII, or none
abbrev pub is_split : List ℕ → Bool
is_split [] = true
is_split (b ∷ []) = nat_lt b 128
is_split _ = false

-- ---- kinds

abbrev pub has_kind : Rule → Data → Bool
has_kind truth d = is_some (as_bool d)
has_kind (number low high) d = is_integer d
has_kind wraps d = is_integer d
has_kind text d = is_text d
has_kind texts d = is_array_of is_text d
has_kind (column true) d = is_text d
has_kind (column false) d = is_integer d
has_kind separator d = is_text d
has_kind form d = is_text d
has_kind date d = is_text d
has_kind unit d = is_text d
has_kind point d = is_text d
has_kind bit_word d = is_text d
has_kind base d = is_integer d
has_kind split d = is_text d

-- ---- ranges

abbrev pub is_in_range : Rule → Data → Bool
is_in_range truth d = true
is_in_range (number low high) d = is_number_between low high d
is_in_range wraps d = is_number_between 0 0 d || is_number_between 1000 4611686018427387904 d
is_in_range text d = true
is_in_range texts d = true
is_in_range (column true) d = true
is_in_range (column false) d = is_number_between 1 1000 d
is_in_range separator d = is_some (separator_of (text_of_value d))
is_in_range form d = is_some (form_of (text_of_value d))
is_in_range date d = is_some (date_of (text_of_value d))
is_in_range unit d = is_some (unit_of (text_of_value d))
is_in_range point d = is_some (point_of (text_of_value d))
is_in_range bit_word d = is_some (bit_word_of (text_of_value d))
is_in_range base d = is_some (base_of (number_of_value d))
is_in_range split d = is_split (text_of_value d)

-- ---- what is in a value

abbrev pub texts_of_value : Data → List (List ℕ)
texts_of_value d = map text_of_value (elements_of d)

abbrev pub column_of_value : Bool → Data → Column
column_of_value true d = columns.Name (text_of_value d)
column_of_value false d = columns.Number (number_of_value d)

abbrev pub split_of : List ℕ → Option ℕ
split_of (b ∷ []) = Some b
split_of _ = None
