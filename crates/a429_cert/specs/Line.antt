-- A line of a certificate, without its line feed: what it may say, and its one spelling (profile).
use Rattle.std.specs.Prelude.{◌≡◌, ◌≤◌, ◌<◌, ◌^◌, ℕ, List, ◌++◌, length, codes, flat_map, Option, Some, None, ⊤}
use Rattle.std.specs.Fmt.{decimal}
use Rattle.std.specs.List.{AllByRecursion}
use Rattle.a429_word.specs.Digits.{numeral, hex_text}
use Rattle.a429_ldu.specs.Ldu.{most_data_words}
use Rattle.a429_cert.specs.declared.line.CertLine.{CertLine}
use Rattle.a429_cert.specs.declared.line.CertLine.TheVariants.{First, Load, Moved}
use Rattle.a429_cert.specs.Field.{field}
use Rattle.a429_cert.specs.Act.{act_text}
use Rattle.a429_cert.specs.States.{source_text, sink_text, IsSource, IsSink}

-- the text of a line (profile): the file's number; a link data unit in hexadecimal; a step, the states after it, and how many words are on their way to the sink and to the source
abbrev pub spelling : CertLine → List ℕ
spelling (First file) = codes "first" ++ field (decimal file)
spelling (Load l) = codes "L" ++ field (numeral 16 1 l.gfi) ++ field (numeral 16 1 l.flags) ++ field (numeral 16 4 l.check) ++ flat_map (λ w. field (hex_text w)) l.words
spelling (Moved l) = act_text l.act ++ field (source_text l.states.source) ++ field (sink_text l.states.sink) ++ field (decimal l.states.to_sink) ++ field (decimal l.states.to_source)

-- ---- what may be spelled

-- the ranges of a line's fields (profile); a file's number and the words on their way are bytes, 0 to 255, a check word has 16 bits
abbrev pub IsLine : CertLine → Type 0
IsLine (First file) = ⊤
IsLine (Load l) = (l.gfi ≤ 15) × (l.flags ≤ 15) × (1 ≤ length l.words) × (length l.words ≤ most_data_words)
IsLine (Moved l) = IsSource l.states.source × IsSink l.states.sink

-- words of 32 bits (ARINC 429 Part 1)
abbrev pub AreHeld : List ℕ → Type 0
AreHeld words = AllByRecursion (λ w. w < 2 ^ 32) words

-- the numbers are those that the types of a line hold: bytes, a check word of 16 bits, and words
abbrev pub IsHeld : CertLine → Type 0
IsHeld (First file) = file < 2 ^ 8
IsHeld (Load l) = (l.check < 2 ^ 16) × AreHeld l.words
IsHeld (Moved l) = (l.states.to_sink < 2 ^ 8) × (l.states.to_source < 2 ^ 8)

-- bytes spell a line
pub record SpellsLine (text : List ℕ) (l : CertLine) : Type 0 where
  pub line : IsLine l
  pub held : IsHeld l
  pub spelled : text ≡ spelling l

-- what bytes are read as: the line that they spell, and nothing where they spell none
abbrev pub Reads : List ℕ → Option CertLine → Type 0
Reads text (Some line) = SpellsLine text line
Reads text None = (line : CertLine) → ¬ SpellsLine text line
