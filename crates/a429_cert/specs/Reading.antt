-- How a line is read, from its first field to its last. That this is the spelling, backwards, is a law.
use Rattle.std.specs.Prelude.{ℕ, zero, suc, ◌/◌, List, [], ◌∷◌, length, take, drop, ◌&&◌, ◌==◌, nat_le, if◌then◌else◌, Option, Some, None, option_map, codes, bytes_eq}
use Rattle.a429_ldu.specs.Ldu.{most_data_words}
use Rattle.a429_cert.specs.declared.line.CertLine.{CertLine}
use Rattle.a429_cert.specs.declared.line.CertLine.TheVariants.{First, Load, Moved}
use Rattle.a429_cert.specs.declared.line.LoadLine.{LoadLine}
use Rattle.a429_cert.specs.declared.line.MovedLine.{MovedLine}
use Rattle.a429_cert.specs.Field.{◌>>=◌, when, with_rest, hex_in, last_decimal_in}
use Rattle.a429_cert.specs.Act.{act_in}
use Rattle.a429_cert.specs.States.{states_in}

-- ---- words

-- so many words, and nothing after them
unfoldable pub words_at : ℕ → List ℕ → Option (List ℕ)
words_at zero text = when (length text == 0) []
words_at (suc n) text = do
  word ← with_rest (hex_in 8) text
  words ← words_at n word.1
  Some (word.0 ∷ words)

-- as many words as a link data unit has, each a space and eight digits
unfoldable pub unit_words_in : List ℕ → Option (List ℕ)
unit_words_in text = do
  count ← when (nat_le 1 (length text / 9) && nat_le (length text / 9) most_data_words) (length text / 9)
  words_at count text

-- ---- lines

-- the number of the first file
unfoldable pub first_in : List ℕ → Option ℕ
first_in text = do
  rest ← when (bytes_eq (take 5 text) (codes "first")) (drop 5 text)
  last_decimal_in rest

-- the line of a link data unit, after its letter
unfoldable pub load_in : List ℕ → Option LoadLine
load_in text = do
  gfi ← with_rest (hex_in 1) text
  flags ← with_rest (hex_in 1) gfi.1
  check ← with_rest (hex_in 4) flags.1
  words ← unit_words_in check.1
  Some (record { gfi = gfi.0; flags = flags.0; check = check.0; words = words })

-- the line of a step, its letter and what comes after it
unfoldable pub moved_in : ℕ → List ℕ → Option MovedLine
moved_in letter text = do
  act ← act_in letter
  states ← states_in text
  Some (record { act = act; states = states })

-- a line, by its first letter
unfoldable pub line_in : List ℕ → Option CertLine
line_in [] = None
line_in (b ∷ text) =
    if b == 76 then option_map (λ l. Load l) (load_in text)
    else if b == 102 then option_map (λ n. First n) (first_in (b ∷ text))
    else option_map (λ l. Moved l) (moved_in b text)
