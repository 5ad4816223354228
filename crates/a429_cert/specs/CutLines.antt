-- The lines of a certificate that is read as a stream (profile).
use Rattle.std.specs.Prelude.{◌≡◌, ◌≤◌, ℕ, List, [], ◌∷◌, ◌++◌, length, drop, Bool, true, false, nat_le, if◌then◌else◌, Option, Some, None, option_and_then, option_map, slice_get, ⊤}
use Rattle.a429_cert.specs.Lines.{certificate_lines}

-- bytes begin with this line and its line feed, and these come after it, whatever follows both
abbrev pub BeginsWith : List ℕ → Option (List ℕ) → List ℕ → Type 0
BeginsWith bytes line left_after = (more : List ℕ) → certificate_lines (bytes ++ more) ≡ line ∷ certificate_lines (left_after ++ more)

-- a text of at most 2,287 bytes, and none for a longer one (profile)
abbrev pub when_short : List ℕ → Option (List ℕ)
when_short text = if nat_le (length text) 2287 then Some text else None

-- a line as it is handed out: one of more than 2,287 bytes is not read to its end (profile)
abbrev pub cut : Option (List ℕ) → Option (List ℕ)
cut line = option_and_then when_short line

-- what is still to come after a line that was handed out: an unended one stays where it is
abbrev pub IsLeftAfter : Option (List ℕ) → List ℕ → List ℕ → Type 0
IsLeftAfter (Some line) old new = certificate_lines new ≡ drop 1 (certificate_lines old)
IsLeftAfter None old new = new ≡ old

-- the answer whether a line was handed out: it is the first of those to come, and there was none where nothing was to come
abbrev pub IsFirstLine : Bool → List ℕ → List ℕ → Option (List ℕ) → Type 0
IsFirstLine true old new line = (option_map cut (slice_get (certificate_lines old) 0) ≡ Some line) × IsLeftAfter line old new
IsFirstLine false old new line = certificate_lines old ≡ []

-- the same of the bytes still to come, where they are known
abbrev pub GivesLine : Option (List ℕ) → Option (List ℕ) → Option (List ℕ) → Bool → Type 0
GivesLine None new line found = ⊤
GivesLine (Some xs) None line found = ⊥
GivesLine (Some xs) (Some ys) line found = IsFirstLine found xs ys line

-- ---- how far a text was read

-- the first n lines of the text were read, each with its line feed, and these bytes after them: the rest is still in the reader
abbrev pub HasRead : List ℕ → Option (List ℕ) → ℕ → List ℕ → Type 0
HasRead text None n ahead = ⊥
HasRead text (Some left) n ahead = certificate_lines (ahead ++ left) ≡ drop n (certificate_lines text)

-- of its lines at least and at most so many were read, and after them no more bytes than a reader of lines holds
pub record HasReadTo (text : List ℕ) (left : Option (List ℕ)) (least most : ℕ) : Type 0 where
  pub lines : ℕ
  pub ahead : List ℕ
  pub from : least ≤ lines
  pub to : lines ≤ most
  pub few : length ahead ≤ 2288
  pub read : HasRead text left lines ahead
