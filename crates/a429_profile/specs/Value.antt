-- Which values a key may have (profile): a kind of value, and a range.
use Rattle.std.specs.Prelude.{ℕ, ℤ, pos, negsuc, List, [], ◌∷◌, map, length, Bool, true, false, ◌&&◌, nat_le, nat_eq, codes, Option, Some, None, is_some, unwrap_or, if◌then◌else◌, ◌+◌, ◌-◌, ◌*◌}
use Rattle.std.specs.List.{list_all}
use Rattle.std.specs.Option.{option_map_or}
use Rattle.toml.specs.Data.{Data, Items, no_items, item, Members, get_member, as_str, as_integer, as_bool, as_array, as_table}
use Rattle.a429_profile.specs.declared.entry.Flag.{Flag}
use Rattle.a429_profile.specs.declared.entry.KindWord.{KindWord}
use Rattle.a429_profile.specs.declared.entry.KindWord.TheVariants.{Bnr, Bcd, Discrete}
use lib.Pointwise.{pointwise}

-- the rules, one for each wording in the table of keys
pub data Rule : Type 0 where
  octal : Rule
  number : ℕ → ℕ → Rule
  numbers : ℕ → ℕ → Rule
  four_numbers : ℕ → ℕ → Rule
  truth : Rule
  printable : ℕ → ℕ → Rule
  kind_word : Rule
  flags : Rule

-- ---- what is in a value

abbrev pub text_of_value : Data → List ℕ
text_of_value d = unwrap_or (as_str d) []

abbrev pub integer_of_value : Data → ℤ
integer_of_value d = unwrap_or (as_integer d) (pos 0)

abbrev pub natural : ℤ → ℕ
natural (pos n) = n
natural (negsuc n) = 0

abbrev pub number_of_value : Data → ℕ
number_of_value d = natural (integer_of_value d)

abbrev pub truth_of_value : Data → Bool
truth_of_value d = unwrap_or (as_bool d) false

abbrev pub list_of : Items → List Data
list_of no_items = []
list_of (item d ds) = d ∷ list_of ds

abbrev pub elements_of : Data → List Data
elements_of d = list_of (unwrap_or (as_array d) no_items)

abbrev pub numbers_of_value : Data → List ℕ
numbers_of_value d = map number_of_value (elements_of d)

-- whether there is a value at a key that passes this test
abbrev pub holds_at : (Data → Bool) → List ℕ → Members → Bool
holds_at test key ms = option_map_or test (get_member key ms) false

-- a number that fits a byte, and 0 for any other
unfoldable pub byte_of : Data → ℕ
byte_of d = if nat_le (number_of_value d) 255 then number_of_value d else 0

-- ---- kinds

abbrev pub is_integer : Data → Bool
is_integer d = is_some (as_integer d)

abbrev pub is_text : Data → Bool
is_text d = is_some (as_str d)

abbrev pub is_table : Data → Bool
is_table d = is_some (as_table d)

-- a table with an integer `bit` and a text `name`
abbrev pub members_are_flag : Option Members → Bool
members_are_flag None = false
members_are_flag (Some ms) = holds_at is_integer (codes "bit") ms && holds_at is_text (codes "name") ms

abbrev pub is_flag : Data → Bool
is_flag d = members_are_flag (as_table d)

abbrev pub is_array_of : (Data → Bool) → Data → Bool
is_array_of test d = is_some (as_array d) && list_all test (elements_of d)

abbrev pub has_kind : Rule → Data → Bool
has_kind octal d = is_text d
has_kind (number low high) d = is_integer d
has_kind (numbers low high) d = is_array_of is_integer d
has_kind (four_numbers low high) d = is_array_of is_integer d
has_kind truth d = is_some (as_bool d)
has_kind (printable least most) d = is_text d
has_kind kind_word d = is_text d
has_kind flags d = is_array_of is_flag d

-- ---- ranges

abbrev pub is_between : ℕ → ℕ → ℤ → Bool
is_between low high (pos n) = nat_le low n && nat_le n high
is_between low high (negsuc n) = false

abbrev pub is_number_between : ℕ → ℕ → Data → Bool
is_number_between low high d = is_between low high (integer_of_value d)

-- three octal digits, 000 to 377
abbrev pub is_octal : List ℕ → Bool
is_octal (a ∷ b ∷ c ∷ []) = nat_le 48 a && nat_le a 51 && nat_le 48 b && nat_le b 55 && nat_le 48 c && nat_le c 55
is_octal _ = false

-- a printable character of ASCII
abbrev pub is_printable : ℕ → Bool
is_printable c = nat_le 32 c && nat_le c 126

abbrev pub is_printable_text : ℕ → ℕ → List ℕ → Bool
is_printable_text least most text = nat_le least (length text) && nat_le (length text) most && list_all is_printable text

-- the three words for a kind of label
abbrev pub kind_word_of : List ℕ → Option KindWord
kind_word_of text =
    if pointwise nat_eq text (codes "bnr") then Some Bnr
    else (if pointwise nat_eq text (codes "bcd") then Some Bcd
    else (if pointwise nat_eq text (codes "discrete") then Some Discrete else None))

-- bit 11 to 29, and a name of 1 to 32 characters
abbrev pub members_are_flag_in_range : Option Members → Bool
members_are_flag_in_range None = false
members_are_flag_in_range (Some ms) =
    holds_at (is_number_between 11 29) (codes "bit") ms && holds_at (λ d. is_printable_text 1 32 (text_of_value d)) (codes "name") ms

abbrev pub is_flag_in_range : Data → Bool
is_flag_in_range d = members_are_flag_in_range (as_table d)

-- how many flags a discrete may have
abbrev pub is_flag_count : ℕ → Bool
is_flag_count n = nat_le 1 n && nat_le n 19

abbrev pub is_in_range : Rule → Data → Bool
is_in_range octal d = is_octal (text_of_value d)
is_in_range (number low high) d = is_number_between low high d
is_in_range (numbers low high) d = list_all (is_number_between low high) (elements_of d)
is_in_range (four_numbers low high) d = nat_eq (length (elements_of d)) 4 && list_all (is_number_between low high) (elements_of d)
is_in_range truth d = true
is_in_range (printable least most) d = is_printable_text least most (text_of_value d)
is_in_range kind_word d = is_some (kind_word_of (text_of_value d))
is_in_range flags d = is_flag_count (length (elements_of d)) && list_all is_flag_in_range (elements_of d)

-- the number of three octal digits
abbrev pub octal_number : List ℕ → ℕ
octal_number (a ∷ b ∷ c ∷ []) = 64 * (a - 48) + 8 * (b - 48) + (c - 48)
octal_number _ = 0

-- the flag that a table describes
abbrev pub flag_in : Option Members → Flag
flag_in None = record { bit = 0; name = [] }
flag_in (Some ms) = record { bit = option_map_or number_of_value (get_member (codes "bit") ms) 0; name = option_map_or text_of_value (get_member (codes "name") ms) [] }

abbrev pub flag_of : Data → Flag
flag_of d = flag_in (as_table d)
