-- The fields of a line: their spelling, and how they and the numbers in them are read (profile).
use Rattle.std.specs.Prelude.{ℕ, ◌+◌, ◌-◌, ◌*◌, List, [], ◌∷◌, ◌++◌, length, take, drop, Bool, ◌&&◌, ◌==◌, nat_le, nat_lt, if◌then◌else◌, Option, Some, None, option_and_then, codes, not}
use Rattle.std.specs.Char.{digit_value, is_ascii_lowercase}
use Rattle.std.specs.List.{list_all}
use Rattle.std.specs.Str.Parse.{digits_value}

-- a field after the first of a line: one space, and its text
abbrev pub field : List ℕ → List ℕ
field text = codes " " ++ text

infixl 10 ◌>>=◌
abbrev pub ◌>>=◌ : {A B : Type 0} → Option A → (A → Option B) → Option B
o >>= f = option_and_then f o

-- a value that passes a test, and none that does not
abbrev pub when : {A : Type 0} → Bool → A → Option A
when test x = if test then Some x else None

-- what comes after a space
abbrev pub after_space : List ℕ → Option (List ℕ)
after_space [] = None
after_space (b ∷ text) = when (b == 32) text

-- a value that a field begins with, and what comes after it
abbrev pub with_rest : {A : Type 0} → (List ℕ → Option (A × List ℕ)) → List ℕ → Option (A × List ℕ)
with_rest read text = do
  inside ← after_space text
  read inside

-- ---- hexadecimal numbers

-- no letter in lower case
abbrev pub is_not_lower : ℕ → Bool
is_not_lower b = not (is_ascii_lowercase b)

-- a digit of a base, none of them a lower case letter
abbrev pub is_digit : ℕ → ℕ → Bool
is_digit base b = is_not_lower b && nat_lt (digit_value b) base

-- the value of a hexadecimal digit
abbrev pub hex_digit_in : ℕ → Option ℕ
hex_digit_in b = when (is_digit 16 b) (digit_value b)

-- the number that hexadecimal digits write, all of the text
unfoldable pub hex_digits_in : List ℕ → Option ℕ
hex_digits_in text = when (list_all (is_digit 16) text) (digits_value 16 text)

-- a hexadecimal number of so many digits, and what comes after it
unfoldable pub hex_in : ℕ → List ℕ → Option (ℕ × List ℕ)
hex_in count text = do
  digits ← when (nat_le count (length text)) (take count text)
  n ← hex_digits_in digits
  Some (n, drop count text)

-- ---- decimal numbers

-- a decimal digit, and what comes after it
unfoldable pub decimal_digit_in : List ℕ → Option (ℕ × List ℕ)
decimal_digit_in [] = None
decimal_digit_in (b ∷ text) = when (nat_le 48 b && nat_le b 57) (b - 48, text)

-- a number up to 255, and after it a digit where there is one
abbrev pub with_digit : ℕ → List ℕ → Option (ℕ × List ℕ) → Option (ℕ × List ℕ)
with_digit n text None = Some (n, text)
with_digit n text (Some digit) = when (nat_le (n * 10 + digit.0) 255) (n * 10 + digit.0, digit.1)

unfoldable pub with_next_digit : ℕ × List ℕ → Option (ℕ × List ℕ)
with_next_digit n = with_digit n.0 n.1 (decimal_digit_in n.1)

-- a decimal number up to 255, without leading zeros, and what comes after it
unfoldable pub decimal_in : List ℕ → Option (ℕ × List ℕ)
decimal_in text = do
  first ← decimal_digit_in text
  if first.0 == 0 then Some first else with_next_digit first >>= with_next_digit

-- a decimal number in the last field, with nothing after it
unfoldable pub last_decimal_in : List ℕ → Option ℕ
last_decimal_in text = do
  number ← with_rest decimal_in text
  when (length number.1 == 0) number.0
