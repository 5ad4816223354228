-- How words and labels are written: words in hexadecimal (profile), labels in octal (ARINC 429 Part 1).
use Rattle.std.specs.Prelude.{ℕ, zero, suc, ◌/◌, ◌%◌, ◌^◌, ◌≡◌, ◌≤◌, List, [], ◌∷◌, length, true, Option, Some, None}
use Rattle.std.specs.Fmt.{digit_glyph}
use Rattle.std.specs.Str.Parse.{digits_value, AllDigits}

-- the last count digits of n in a base, the most significant first, in upper case
unfoldable pub numeral : ℕ → ℕ → ℕ → List ℕ
numeral base zero n = []
numeral base (suc k) n = digit_glyph true (n / base ^ k % base) ∷ numeral base k n

-- a word in eight hexadecimal digits
abbrev pub hex_text : ℕ → List ℕ
hex_text w = numeral 16 8 w

-- a label in three octal digits
abbrev pub octal_text : ℕ → List ℕ
octal_text label = numeral 8 3 label

-- eight hexadecimal digits, of either case
abbrev pub IsHexWord : List ℕ → Type 0
IsHexWord text = (length text ≡ 8) × AllDigits 16 text

-- no byte comes after F: no hexadecimal digit is in lower case
abbrev pub AreUpper : List ℕ → Type 0
AreUpper [] = Unit {0}
AreUpper (b ∷ bs) = (b ≤ 70) × AreUpper bs

-- what a text is read as: the word that eight hexadecimal digits name, and nothing for any other text
abbrev pub ReadsHex : List ℕ → Option ℕ → Type 0
ReadsHex text None = ¬ IsHexWord text
ReadsHex text (Some w) = IsHexWord text × (w ≡ digits_value 16 text)
