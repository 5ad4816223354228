-- The short form of a certificate: notes, each of which is some lines, or a part of one (profile).
use Rattle.std.specs.Prelude.{◌≡◌, ℕ, zero, suc, ◌-◌, Bool, if◌then◌else◌, List, [], ◌∷◌, ◌++◌, codes}
use Rattle.std.specs.List.{flat_map}
use Rattle.a429_word.specs.Digits.{numeral, hex_text}
use Rattle.a429_ldu.specs.Ldu.{LduValue}
use Rattle.a429_link.specs.declared.state.SourceState.TheVariants.{Sending, Waiting}
use Rattle.a429_link.specs.declared.state.States.{States}
use Rattle.a429_cert.specs.Field.{field}
use Rattle.a429_cert.specs.Line.{spelling}
use Rattle.a429_cert.specs.States.{source_text}
use Rattle.a429_cert.specs.declared.line.CertLine.{CertLine}
use Rattle.a429_cert.specs.declared.line.CertLine.TheVariants as cert
use Rattle.a429_cert.specs.declared.line.LoadLine.{LoadLine}
use Rattle.a429_cert.specs.declared.line.MovedLine.{MovedLine}
use Rattle.a429_cert.specs.declared.version.Version.TheVariants.{One, Two}
use Rattle.a429_cert.specs.Version.{version_line}
use Rattle.std.specs.Int.{w32, from_le_bytes}
use Rattle.a429_explain.specs.declared.note.ShortWord.{ShortWord}
use Rattle.a429_explain.specs.declared.note.Note.{Note}
use Rattle.a429_explain.specs.declared.note.Note.TheVariants.{First, Load, Words, Pair, Moves, Losses}
use Rattle.a429_explain.specs.Next.{lost, next_line}

-- ---- lines

-- a line that comes after another: the line feed of that, and its own text
abbrev pub line_after : CertLine → List ℕ
line_after l = 10 ∷ spelling l

-- the line of a link data unit
abbrev pub line_of : LduValue → LoadLine
line_of u = record { gfi = u.gfi; flags = u.flags; check = u.check; words = u.words }

-- the fields of data words
abbrev pub word_fields : List ℕ → List ℕ
word_fields words = flat_map (λ w. field (hex_text w)) words

-- ---- notes

-- the fields of a word that comes so many times
abbrev pub same_fields : ℕ → ℕ → List ℕ
same_fields w zero = []
same_fields w (suc n) = field (hex_text w) ++ same_fields w n

-- so many lines after this one, each the one that is likely after the last
abbrev pub likely_lines : MovedLine → ℕ → List ℕ
likely_lines m zero = []
likely_lines m (suc n) = line_after (cert.Moved (next_line m)) ++ likely_lines (next_line m) n

-- the last of them
abbrev pub last_line : MovedLine → ℕ → MovedLine
last_line m zero = m
last_line m (suc n) = last_line (next_line m) n

-- the lines of the last words of a block, which are lost: so many, with the k-th as the first, and the very last, after which the source
-- waits; the sink and the ways are as in these states
abbrev pub rest_lines : States → ℕ → ℕ → List ℕ
rest_lines at k zero = line_after (cert.Moved (lost at Waiting))
rest_lines at k (suc n) = line_after (cert.Moved (lost at (Sending k))) ++ rest_lines at (suc k) n

-- the line of a lost word, up to the number of words that are sent after it
abbrev pub lost_head : ℕ → List ℕ
lost_head k = 10 ∷ (codes "l" ++ field (source_text (Sending k)))

-- the line of a link data unit, up to its words
abbrev pub load_head : ℕ → ℕ → ℕ → List ℕ
load_head gfi flags check = 10 ∷ (codes "L" ++ field (numeral 16 1 gfi) ++ field (numeral 16 1 flags) ++ field (numeral 16 4 check))

-- the number of which a note has the four bytes
unfoldable pub number_in : ShortWord → ℕ
number_in w = from_le_bytes w32 w.bytes

abbrev pub note_text : Note → List ℕ
note_text (First file) = line_after (cert.First file)
note_text (Load gfi flags check) = load_head gfi flags (number_in check)
note_text (Words word times) = same_fields (number_in word) times
note_text (Pair first second) = field (hex_text (number_in first)) ++ field (hex_text (number_in second))
note_text (Moves first more) = line_after (cert.Moved first) ++ likely_lines first more
note_text (Losses at first end) = rest_lines at first (end - first)

-- where the note is one of steps, this is the last of its lines
abbrev pub EndsWith : Note → MovedLine → Type 0
EndsWith (Moves first more) last = last ≡ last_line first more
EndsWith (First file) last = Unit {0}
EndsWith (Load gfi flags check) last = Unit {0}
EndsWith (Words word times) last = Unit {0}
EndsWith (Pair first second) last = Unit {0}
EndsWith (Losses at first end) last = Unit {0}

-- ---- the certificate

-- a certificate with these lines after its first, each begun with the line feed before it: of version 2 where a file is given up
abbrev pub in_version : Bool → List ℕ → List ℕ
in_version gave_up lines = version_line (if gave_up then Two else One) ++ (lines ++ 10 ∷ [])
