-- What is written of entries, read again.
use Rattle.std.proofs.Common.{◌≡◌, ◌∙◌, ◌^◌, ◌<◌, ◌++◌, ℕ, List, [], ◌∷◌, map, Some, inl, refl, sym, ap, rules, arith, append_assoc}
use Rattle.std.specs.Prelude.{codes}
use Rattle.std.specs.Fmt.{decimal}
use Rattle.std.specs.List.{flat_map}
use Rattle.std.specs.Str.Parse.{digits_value}
use Rattle.std.proofs.lemmas.Fmt.{decimal_is_IsNumeral, decimal_nonempty, length-decimal-le}
use Rattle.std.proofs.lemmas.List.{append-nil, map-append}
use Rattle.csv.proofs.OnLiterals.{csv_on_literals}
use Rattle.a429_word.specs.declared.bus.Bus.{Bus}
use Rattle.a429_word.specs.declared.bus.Bus.TheVariants.{A, B}
use Rattle.a429_word.specs.Digits.{hex_text, ReadsHex}
use Rattle.a429_word.specs.Bus.{bus_text}
use Rattle.a429_word.proofs.DigitsFacts.{hex_text-read, AllDigits-numeral, length-hex_text}
use Rattle.a429_record.specs.declared.entry.Entry.{Entry}
use Rattle.a429_record.specs.Ends.{HasNoEnd}
use Rattle.a429_record.specs.Row.{Row, time_in, bus_in, word_in, entry_in, line_rows}
use Rattle.a429_record.specs.Line.{line_entries}
use Rattle.a429_record.specs.Recording.{recording_lines, rows_of, stands_for, whole, IsRecordable}
use Rattle.a429_record.specs.WholeRecordings.{AreEntries}
use Rattle.a429_record.specs.Writing.{line_text, written_form}
use Rattle.a429_record.proofs.RowDigits.{time_in-is, word_in-reads}
use Rattle.a429_record.proofs.LinePlain.{plain_line, high_ends}
use Rattle.a429_record.proofs.LinesFacts.{HasNoEnd-append, lines_of-ended}
use Rattle.a429_record.proofs.WritingFacts.{AllHigh-decimal, AllHigh-bus, AllHigh-numeral}
use Rattle.a429_record.proofs.WholeRecordings.{text-whole}

-- ---- fields

time-back : (n : ℕ) → n < 2 ^ 64 → time_in (decimal n) ≡ Some n
time-back n h =
    let numeral = decimal_is_IsNumeral n h in
    let long : n < 10 ^ 20 = omega arith in
    sym (time_in-is (decimal n) n (decimal_nonempty n h) (length-decimal-le 20 n (omega arith) long h) numeral.0.1 (sym numeral.1) h)

bus-back : (b : Bus) → bus_in (bus_text b) ≡ Some b
bus-back A = refl
bus-back B = refl

pub word-back : (w : ℕ) → w < 2 ^ 32 → word_in (hex_text w) ≡ Some w
word-back w h =
    let reads : ReadsHex (hex_text w) (Some (digits_value 16 (hex_text w))) = ((length-hex_text w, AllDigits-numeral 8 w), refl) in
    let value : Some (digits_value 16 (hex_text w)) ≡ Some w = hex_text-read w (Some (digits_value 16 (hex_text w))) h reads in
    sym (word_in-reads (hex_text w) (Some (digits_value 16 (hex_text w))) reads) ∙ value

entry-back : (e : Entry)
    → e.time < 2 ^ 64 → e.word < 2 ^ 32 → entry_in (Some (decimal e.time ∷ bus_text e.bus ∷ hex_text e.word ∷ [])) ≡ Some e
entry-back e ht hw = rw (time-back e.time ht, bus-back e.bus, word-back e.word hw) refl

-- ---- lines

-- the line of an entry, without its line feed
abbrev pub body : Entry → List ℕ
body e = decimal e.time ++ (44 ∷ (bus_text e.bus ++ (44 ∷ (hex_text e.word ++ []))))

pub body-end : (e : Entry) → e.time < 2 ^ 64 → HasNoEnd (body e)
body-end e h =
    let word : HasNoEnd (hex_text e.word ++ []) = rw append-nil (high_ends (hex_text e.word) (AllHigh-numeral 8 e.word)) in
    HasNoEnd-append (decimal e.time) (44 ∷ (bus_text e.bus ++ (44 ∷ (hex_text e.word ++ []))))
    (high_ends (decimal e.time) (AllHigh-decimal e.time h))
    (refl, HasNoEnd-append (bus_text e.bus) (44 ∷ (hex_text e.word ++ [])) (high_ends (bus_text e.bus) (AllHigh-bus e.bus)) (refl, word))

pub line-is : (e : Entry) (rest : List ℕ) → line_text e ++ rest ≡ body e ++ (10 ∷ rest)
line-is e rest = simp (append_assoc, append-nil)

rows-line : (e : Entry) (rest : List ℕ) → e.time < 2 ^ 64 → rows_of (line_text e ++ rest) ≡ line_rows (body e) ++ rows_of rest
rows-line e rest h = ap (flat_map line_rows) (ap recording_lines (line-is e rest) ∙ lines_of-ended (body e) rest (body-end e h))

pub rows-back : (es : List Entry) → AreEntries es → map entry_in (rows_of (flat_map line_text es)) ≡ map Some es
rows-back [] h = refl
rows-back (e ∷ es) h =
    let here : line_entries (body e) ≡ Some e ∷ [] =
    plain_line (decimal e.time) (bus_text e.bus) (hex_text e.word) [] e (entry-back e h.0 h.1) (inl refl) in
    ap (map entry_in) (rows-line e (flat_map line_text es) h.0) ∙ map-append entry_in (line_rows (body e)) (rows_of (flat_map line_text es))
    ∙ rw (here, rows-back es h.2) refl

abbrev header_row : Row
header_row = Some (codes "time" ∷ codes "bus" ∷ codes "word" ∷ [])

header-rows : line_rows (codes "time,bus,word") ≡ header_row ∷ []
unfolding csv_on_literals
header-rows = refl

pub header-end : HasNoEnd (codes "time,bus,word")
header-end = search rules

rows-header : (rest : List ℕ) → rows_of (codes "time,bus,word\n" ++ rest) ≡ header_row ∷ rows_of rest
rows-header rest =
    ap (flat_map line_rows) (lines_of-ended (codes "time,bus,word") rest header-end)
    ∙ ap (λ (r : List Row). r ++ rows_of rest) header-rows

-- ---- all of it

pub written-back : (es : List Entry) → AreEntries es → IsRecordable es → stands_for (written_form es) ≡ whole es
written-back es fit recordable = text-whole (written_form es) es refl record {
  header = header_row;
  rows = rows_of (flat_map line_text es);
  all = rows-header (flat_map line_text es);
  first = refl;
  entries = rows-back es fit;
  recordable = recordable;
}
