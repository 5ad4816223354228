-- A recording in the standard form, imported by its map, line by line.
use Rattle.std.proofs.Common.{◌≡◌, ℕ, ◌+◌, ◌-◌, ◌*◌, ◌%◌, ◌^◌, ◌<◌, ◌≤◌, ◌==◌, arith, refl, ap, sym, ◌∙◌, List, [], ◌∷◌, ◌++◌, length, map, Bool, true, false, ◌&&◌, nat_le, nat_lt, if◌then◌else◌, Some, None, Ok, append-nil}
use Rattle.std.specs.Prelude.{⊤, codes}
use Rattle.std.specs.Char.{digit_value}
use Rattle.std.specs.Fmt.{decimal}
use Rattle.std.specs.Int.Bits.{bit_or, or_zero_l}
use Rattle.std.specs.List.{flat_map, list_all, list_any}
use Rattle.std.specs.Str.Parse.{digits_value, AllDigits}
use Rattle.std.proofs.lemmas.Bool.{and_parts}
use Rattle.std.proofs.lemmas.Bool.Decides.{nat_tests}
use Rattle.std.proofs.lemmas.Fmt.{decimal_is_IsNumeral, decimal_nonempty, length-decimal-le}
use Rattle.csv.specs.Reading.{strip_bom}
use Rattle.a429_word.specs.declared.bus.Bus.{Bus}
use Rattle.a429_word.specs.declared.bus.Bus.TheVariants.{A, B}
use Rattle.a429_word.specs.Bus.{bus_text}
use Rattle.a429_word.specs.Digits.{hex_text}
use Rattle.a429_record.specs.declared.entry.Entry.{Entry}
use Rattle.a429_record.specs.Recording.{recording_lines, NeverFalls}
use Rattle.a429_record.specs.Row.{all_digits}
use Rattle.a429_record.specs.WholeRecordings.{AreEntries}
use Rattle.a429_record.specs.Writing.{line_text, written_form}
use Rattle.a429_record.proofs.LinePlain.{AllHigh, no_mark}
use Rattle.a429_record.proofs.LinesFacts.{lines_of-ended}
use Rattle.a429_record.proofs.RowDigits.{all_digits-from}
use Rattle.a429_record.proofs.WritingFacts.{AllHigh-decimal, AllHigh-bus, AllHigh-numeral}
use Rattle.a429_record.proofs.WrittenIsReadBack.{body, body-end, line-is, word-back, header-end}
use Rattle.a429_import.specs.declared.channel.Channel.TheVariants.{Line}
use Rattle.a429_import.specs.declared.columns.Columns.{Columns}
use Rattle.a429_import.specs.declared.lot.Lot.{Lot}
use Rattle.a429_import.specs.declared.lot.Lot.TheVariants as lot
use Rattle.a429_import.specs.declared.order.Fall.TheVariants as fall
use Rattle.a429_import.specs.declared.parity.Verdict.TheVariants as verdict
use Rattle.a429_import.specs.declared.past.Past.{Past}
use Rattle.a429_import.specs.declared.progress.Progress.{Progress}
use Rattle.a429_import.specs.declared.time.TimeForm.TheVariants as form
use Rattle.a429_import.specs.declared.time.Unit.TheVariants as unit
use Rattle.a429_import.specs.Base.{number_in}
use Rattle.a429_import.specs.Bits.{placed}
use Rattle.a429_import.specs.Channel.{heard_on}
use Rattle.a429_import.specs.Columns.{columns_in}
use Rattle.a429_import.specs.Fields.{fields_in, is_blank, is_mark, is_return, text_of, trimmed, without_first, without_last}
use Rattle.a429_import.specs.Import.{at_start, entries_of, goes_on, imported, imported_after, lot_of, progress_after, with_lot}
use Rattle.a429_import.specs.Piece.{before_first, pieces}
use Rattle.a429_import.specs.Row.{finished, row_lot, word_of}
use Rattle.a429_import.specs.Standard.{standard_map, Keeps}
use Rattle.a429_import.specs.TimeForm.{time_in}
use Rattle.a429_import.proofs.BitsFacts.{placed-straight}
use Rattle.a429_import.proofs.FieldsFacts.{cut_is}
use Rattle.a429_import.proofs.TimeFacts.{kept_is}

-- ---- texts none of whose bytes are so

abbrev NoneIs : (ℕ → Bool) → List ℕ → Type 0
NoneIs is [] = ⊤
NoneIs is (b ∷ bs) = (is b ≡ false) × NoneIs is bs

none-append : (is : ℕ → Bool) (xs ys : List ℕ) → NoneIs is xs → NoneIs is ys → NoneIs is (xs ++ ys)
none-append is [] ys h k = k
none-append is (x ∷ xs) ys h k = (h.0, none-append is xs ys h.1 k)

none-high : (is : ℕ → Bool) (xs : List ℕ) → ((b : ℕ) → 48 ≤ b → is b ≡ false) → AllHigh xs → NoneIs is xs
none-high is [] h all = tt
none-high is (x ∷ xs) h all = (h x all.0, none-high is xs h all.1)

none-any : (is : ℕ → Bool) (xs : List ℕ) → NoneIs is xs → list_any is xs ≡ false
none-any is [] h = refl
none-any is (x ∷ xs) h = rw h.0 (none-any is xs h.1)

not-all : (is : ℕ → Bool) (xs : List ℕ) → 0 < length xs → NoneIs is xs → list_all is xs ≡ false
not-all is [] some h = absurd (omega arith)
not-all is (x ∷ xs) some h = rw h.0 refl

first-stays : (is : ℕ → Bool) (xs : List ℕ) → NoneIs is xs → without_first is xs ≡ xs
first-stays is [] h = refl
first-stays is (x ∷ xs) h = rw h.0 refl

last-stays : (is : ℕ → Bool) (xs : List ℕ) → NoneIs is xs → without_last is xs ≡ xs
last-stays is [] h = refl
last-stays is (x ∷ xs) h = rw h.0 (ap (λ (l : List ℕ). x ∷ l) (last-stays is xs h.1))

trimmed-stays : (xs : List ℕ) → NoneIs is_blank xs → trimmed xs ≡ xs
trimmed-stays xs h = ap (without_last is_blank) (first-stays is_blank xs h) ∙ last-stays is_blank xs h

one_piece : (xs : List ℕ) → NoneIs (λ b. b == 44) xs → pieces 44 xs ≡ xs ∷ []
one_piece [] h = refl
one_piece (x ∷ xs) h = rw h.0 (ap (before_first x) (one_piece xs h.1))

piece_first : (xs ys : List ℕ) → NoneIs (λ b. b == 44) xs → pieces 44 (xs ++ 44 ∷ ys) ≡ xs ∷ pieces 44 ys
piece_first [] ys h = refl
piece_first (x ∷ xs) ys h = rw h.0 (ap (before_first x) (piece_first xs ys h.1))

-- ---- the line of an entry

high_comma : (b : ℕ) → 48 ≤ b → (b == 44) ≡ false
high_comma b h = grind (arith, nat_tests)

high_return : (b : ℕ) → 48 ≤ b → is_return b ≡ false
high_return b h = grind (arith, nat_tests)

high_blank : (b : ℕ) → 48 ≤ b → is_blank b ≡ false
high_blank b h =
    let first : (b == 32) ≡ false = grind (arith, nat_tests) in
    let second : (b == 9) ≡ false = grind (arith, nat_tests) in
    rw (first, second) refl

high_mark : (b : ℕ) → 48 ≤ b → is_mark true b ≡ false
high_mark b h =
    let first : (b == 10) ≡ false = grind (arith, nat_tests) in
    let second : (b == 34) ≡ false = grind (arith, nat_tests) in
    rw (first, second) refl

none-line : (is : ℕ → Bool) (e : Entry) → e.time < 2 ^ 64 → ((b : ℕ) → 48 ≤ b → is b ≡ false) → is 44 ≡ false → NoneIs is (body e)
none-line is e h high comma =
    none-append is (decimal e.time) (44 ∷ (bus_text e.bus ++ (44 ∷ (hex_text e.word ++ []))))
    (none-high is (decimal e.time) high (AllHigh-decimal e.time h)) (
      comma,
      none-append is (bus_text e.bus) (44 ∷ (hex_text e.word ++ [])) (none-high is (bus_text e.bus) high (AllHigh-bus e.bus))
          (comma, none-append is (hex_text e.word) [] (none-high is (hex_text e.word) high (AllHigh-numeral 8 e.word)) tt),
    )

low_digit : (b : ℕ) → digit_value b < 10 → b ≤ 57
low_digit b h = grind (arith, nat_tests)

digits_unmarked : (ds rest : List ℕ) → 0 < length ds → AllDigits 10 ds → strip_bom (ds ++ rest) ≡ ds ++ rest
digits_unmarked [] rest some all = absurd (omega arith)
digits_unmarked (d ∷ ds) rest some all = no_mark d (ds ++ rest) (low_digit d all.0)

text_is : (e : Entry) → e.time < 2 ^ 64 → text_of (body e) ≡ body e
text_is e h =
    ap strip_bom (last-stays is_return (body e) (none-line is_return e h high_return refl))
    ∙ digits_unmarked (decimal e.time) _ (decimal_nonempty e.time h) (decimal_is_IsNumeral e.time h).0.1

some_byte : (xs ys : List ℕ) → 0 < length xs → 0 < length (xs ++ ys)
some_byte [] ys h = absurd (omega arith)
some_byte (x ∷ xs) ys h = omega arith

line_some : (e : Entry) → e.time < 2 ^ 64 → list_all is_blank (body e) ≡ false
line_some e h =
    not-all is_blank (body e) (some_byte (decimal e.time) _ (decimal_nonempty e.time h)) (none-line is_blank e h high_blank refl)

entry_pieces : (e : Entry) → e.time < 2 ^ 64 → pieces 44 (body e) ≡ decimal e.time ∷ bus_text e.bus ∷ hex_text e.word ∷ []
entry_pieces e h =
    piece_first (decimal e.time) _ (none-high (λ b. b == 44) (decimal e.time) high_comma (AllHigh-decimal e.time h))
    ∙ ap (λ (l : List (List ℕ)). decimal e.time ∷ l)
    (piece_first (bus_text e.bus) _ (none-high (λ b. b == 44) (bus_text e.bus) high_comma (AllHigh-bus e.bus))
    ∙ ap (λ (l : List (List ℕ)). bus_text e.bus ∷ l) (ap (pieces 44) (append-nil (hex_text e.word))
    ∙ one_piece (hex_text e.word) (none-high (λ b. b == 44) (hex_text e.word) high_comma (AllHigh-numeral 8 e.word))))

fields_are : (e : Entry) → e.time < 2 ^ 64 → fields_in standard_map.rows (body e) ≡ decimal e.time ∷ bus_text e.bus ∷ hex_text e.word ∷ []
fields_are e h =
    let unmarked = none-any (is_mark true) (body e) (none-line (is_mark true) e h high_mark refl) in
    let time = trimmed-stays (decimal e.time) (none-high is_blank (decimal e.time) high_blank (AllHigh-decimal e.time h)) in
    let bus = trimmed-stays (bus_text e.bus) (none-high is_blank (bus_text e.bus) high_blank (AllHigh-bus e.bus)) in
    let word = trimmed-stays (hex_text e.word) (none-high is_blank (hex_text e.word) high_blank (AllHigh-numeral 8 e.word)) in
    rw (text_is e h) (ap (map trimmed) (cut_is 44 true (body e) (line_some e h) unmarked ∙ entry_pieces e h) ∙ rw (time, bus, word) refl)

-- ---- its fields

time_is : (t : ℕ) → t < 2 ^ 64 → time_in form.Integer unit.Microsecond (decimal t) ≡ Some (record { micros = t; is_cut = false })
time_is t h =
    let numeral = decimal_is_IsNumeral t h in
    let long : t < 10 ^ 20 = omega arith in
    let most = length-decimal-le 20 t (omega arith) long h in
    let some = decimal_nonempty t h in
    let first : nat_le 1 (length (decimal t)) ≡ true = grind (arith, nat_tests) in
    let second : nat_le (length (decimal t)) 30 ≡ true = grind (arith, nat_tests) in
    let one : t * 10 ^ (0 - 0) ≡ t = omega arith in
    rw (first, second, all_digits-from 10 (decimal t) numeral.0.1)
    (ap Some (sym (rw one at (kept_is 0 0 t (decimal t) [] false refl (sym numeral.1) tt refl))))

line_is : (b : Bus) → heard_on standard_map.channels (bus_text b) ≡ Line b
line_is A = refl
line_is B = refl

if_some : (b : Bool) (n m : ℕ) → (if b then Some n else None) ≡ Some m → (b ≡ true) × (n ≡ m)
if_some true n m e = (refl, cc e)
if_some false n m e = cc e

number_is : (w : ℕ) → w < 2 ^ 32 → number_in 16 32 (hex_text w) ≡ Some w
number_is w h =
    let read = if_some (length (hex_text w) == 8 && all_digits 16 (hex_text w)) (digits_value 16 (hex_text w)) w (word-back w h) in
    let both = and_parts (length (hex_text w) == 8) (all_digits 16 (hex_text w)) read.0 in
    let first : nat_le 1 (length (hex_text w)) ≡ true = grind (arith, nat_tests) in
    let below : nat_lt w (2 ^ 32) ≡ true = grind (arith, nat_tests) in
    rw (first, both.1, read.1, below) refl

placed_is : (w : ℕ) → w < 2 ^ 32 → placed (record { low = 1; count = 32; reversed = false }) w ≡ w
placed_is w h =
    let same : w ≡ w * 2 ^ (1 - 1) % 4294967296 = omega arith in
    sym (same ∙ placed-straight (record { low = 1; count = 32; reversed = false }) w refl
    (record { first = omega arith; some = omega arith; last = omega arith }) h)

or_none : (w : ℕ) → bit_or 0 w ≡ w
or_none w = or_zero_l w

abbrev standing : Columns
standing = record { channel = 1; time = 0; status = 0; parts = 2 ∷ []; last = 2 }

word_is : (n w : ℕ) (a b : List ℕ) → w < 2 ^ 32 → word_of standard_map standing n (a ∷ b ∷ hex_text w ∷ []) ≡ Ok w
word_is n w a b h = rw (number_is w h, placed_is w h, or_none w) refl

-- ---- what becomes of it

abbrev past_at : ℕ → Past
past_at latest = record { clock = record { offset = 0; has_wrapped = false; latest = latest }; last = [] }

abbrev kept : Entry → Lot
kept e = lot.Written e false verdict.Received (record { wraps = false; fall = fall.None; offset = 0 })

finished_is : (n latest : ℕ) (e : Entry) → e.time < 2 ^ 64 → latest ≤ e.time
    → finished standard_map n (past_at latest) e.bus (record { micros = e.time; is_cut = false }) verdict.Received e.word ≡ Ok (kept e)
finished_is n latest e h later =
    let same : e.time + 0 ≡ e.time = omega arith in
    let fits : nat_le (2 ^ 64) e.time ≡ false = grind (arith, nat_tests) in
    let above : nat_le latest e.time ≡ true = grind (arith, nat_tests) in
    rw (same, fits, above) refl

row_is : (n latest : ℕ) (e : Entry) → e.time < 2 ^ 64 → e.word < 2 ^ 32 → latest ≤ e.time
    → row_lot standard_map standing n (past_at latest) (decimal e.time ∷ bus_text e.bus ∷ hex_text e.word ∷ []) ≡ Ok (kept e)
row_is n latest e h k later =
    rw (line_is e.bus, time_is e.time h, word_is n e.word (decimal e.time) (bus_text e.bus) k) (finished_is n latest e h later)

lot_is : (s : Progress) (latest : ℕ) (e : Entry)
    → s.columns ≡ Some standing → s.past ≡ past_at latest → e.time < 2 ^ 64 → e.word < 2 ^ 32 → latest ≤ e.time
    → lot_of standard_map s (body e) ≡ Ok (kept e)
lot_is s latest e columns past h k later =
    let more : nat_lt s.lines 0 ≡ false = grind (arith, nat_tests) in
    let some : list_all is_blank (text_of (body e)) ≡ false = rw (text_is e h) (line_some e h) in
    rw (more, some, columns, past, fields_are e h) (row_is (s.lines + 1) latest e h k later)

-- ---- all of it

after_is : (es : List Entry) (s : Progress) (latest : ℕ)
    → s.columns ≡ Some standing → s.past ≡ past_at latest → AreEntries es → NeverFalls latest es
    → imported_after standard_map s (recording_lines (flat_map line_text es)) ≡ record { lots = map kept es; fault = None }
after_is [] s latest columns past fit order = rw columns refl
after_is (e ∷ es) s latest columns past fit order =
    let lines =
    ap recording_lines (line-is e (flat_map line_text es)) ∙ lines_of-ended (body e) (flat_map line_text es) (body-end e fit.0) in
    let next : (progress_after standard_map s (body e) (kept e)).past ≡ past_at e.time = rw past refl in
    ap (imported_after standard_map s) lines
    ∙ ap (λ r.
    goes_on r (λ l. imported_after standard_map (progress_after standard_map s (body e) l) (recording_lines (flat_map line_text es))))
    (lot_is s latest e columns past fit.0 fit.1 order.0)
    ∙ ap (with_lot (kept e)) (after_is es (progress_after standard_map s (body e) (kept e)) e.time columns next fit.2 order.1)

header_lot : lot_of standard_map (at_start standard_map) (codes "time,bus,word") ≡ Ok lot.Heading
unfolding strip_bom
header_lot = refl

header_columns : (progress_after standard_map (at_start standard_map) (codes "time,bus,word") lot.Heading).columns ≡ Some standing
unfolding strip_bom
header_columns = ap (λ (l : List (List ℕ)). columns_in standard_map (map trimmed l)) (cut_is 44 true (codes "time,bus,word") refl refl)

all_is : (es : List Entry)
    → AreEntries es → NeverFalls 0 es → imported standard_map (written_form es) ≡ record { lots = lot.Heading ∷ map kept es; fault = None }
all_is es fit order =
    let rest = flat_map line_text es in
    ap (imported_after standard_map (at_start standard_map)) (lines_of-ended (codes "time,bus,word") rest header-end)
    ∙ ap (λ r. goes_on r (λ l.
    imported_after standard_map (progress_after standard_map (at_start standard_map) (codes "time,bus,word") l) (recording_lines rest)))
    header_lot
    ∙ ap (with_lot lot.Heading)
    (after_is es (progress_after standard_map (at_start standard_map) (codes "time,bus,word") lot.Heading) 0 header_columns refl fit order)

entries_back : (es : List Entry) → entries_of (map kept es) ≡ es
entries_back [] = refl
entries_back (e ∷ es) = ap (λ (l : List Entry). e ∷ l) (entries_back es)

pub standard_kept : (es : List Entry) → AreEntries es → NeverFalls 0 es → Keeps es (imported standard_map (written_form es))
standard_kept es fit order = record {
  entries = ap (λ i. entries_of i.lots) (all_is es fit order) ∙ entries_back es;
  fault = ap (λ i. i.fault) (all_is es fit order);
}
