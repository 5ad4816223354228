-- The text of a record of `csv`, where its fields are plain.
use Rattle.std.proofs.Common.{◌≡◌, ◌∙◌, ◌+◌, ◌-◌, ◌++◌, ◌∷◌, [], ◌≤◌, ◌<◌, ◌/◌, ◌%◌, ◌^◌, ℕ, zero, suc, List, arith, refl, sym, ap, true, length, take, drop, length-append, append_assoc}
use Rattle.std.specs.Prelude.{codes}
use Rattle.std.specs.Fmt.{decimal, digit_glyph}
use Rattle.std.proofs.lemmas.Fmt.{decimal_is_IsNumeral}
use Rattle.std.proofs.lemmas.Bool.Decides.{nat_tests}
use Rattle.std.proofs.lemmas.List.{append-nil, take-take, drop-take, drop-append-le, length-take-le, length-drop, take_at}
use Rattle.std.proofs.Math.Seq.{drop-append_seam, take-append_seam}
use Rattle.itoa.proofs.Decimal.{pair, decimal_four}
use Rattle.csv.specs.Writing.{default_writer, row_text, fields_text, is_blank}
use Rattle.a429_word.specs.declared.bus.Bus.{Bus}
use Rattle.a429_word.specs.declared.bus.Bus.TheVariants.{A, B}
use Rattle.a429_word.specs.Digits.{numeral, hex_text}
use Rattle.a429_word.specs.Bus.{bus_text}
use Rattle.a429_record.specs.declared.entry.Entry.{Entry}
use Rattle.a429_record.specs.Writing.{header_fields, entry_fields, header_text, line_text, entry_text}
use Rattle.a429_record.proofs.RowDigits.{all_digits-from}
use Rattle.a429_record.proofs.LinePlain.{AllHigh, plain, digits_high}

-- ---- the fields of an entry are plain

pub AllHigh-decimal : (n : ℕ) → n < 2 ^ 64 → AllHigh (decimal n)
AllHigh-decimal n h = digits_high 10 (decimal n) (omega arith) (all_digits-from 10 (decimal n) (decimal_is_IsNumeral n h).0.1)

pub AllHigh-bus : (b : Bus) → AllHigh (bus_text b)
AllHigh-bus A = (omega arith, tt)
AllHigh-bus B = (omega arith, tt)

glyph_high : (d : ℕ) → d < 16 → 48 ≤ digit_glyph true d
glyph_high d h = grind (arith, nat_tests)

pub AllHigh-numeral : (k w : ℕ) → AllHigh (numeral 16 k w)
unfolding numeral
AllHigh-numeral zero w = tt
AllHigh-numeral (suc k) w = (glyph_high (w / 16 ^ k % 16) (omega arith), AllHigh-numeral k w)

-- ---- their record

plain_row : (t b w : List ℕ) → AllHigh t → AllHigh b → AllHigh w
    → row_text default_writer (t ∷ b ∷ w ∷ []) ≡ t ++ codes "," ++ b ++ codes "," ++ w ++ codes "\n"
unfolding fields_text is_blank
plain_row t b w ht hb hw = rw (plain t ht, plain b hb, plain w hw, append-nil) (simp append_assoc)

pub entry_line : (e : Entry) → e.time < 2 ^ 64 → row_text default_writer (entry_fields e) ≡ line_text e
entry_line e small =
    plain_row (decimal e.time) (bus_text e.bus) (hex_text e.word) (AllHigh-decimal e.time small) (AllHigh-bus e.bus)
    (AllHigh-numeral 8 e.word)

pub header_line : row_text default_writer header_fields ≡ header_text
unfolding fields_text is_blank
header_line = refl

-- ---- an entry, put as the first of 32 bytes

-- digits that end where twelve bytes begin, and these: the first of the 32 bytes from the first digit on
pub entry_written : (start : ℕ) (digits zeros parts rest old new : List ℕ)
    → start + length digits ≡ 20 → length zeros ≡ 20 → length parts ≡ 12
    → old ≡ zeros ++ (parts ++ rest) → drop start new ≡ digits ++ drop 20 old
    → take (32 - start) (take (start + 32 - start) (drop start new)) ≡ digits ++ parts
entry_written start digits zeros parts rest old new ends size twelve was written =
    let all : 32 - start ≡ length (digits ++ parts) = omega (arith, ends, twelve, length-append digits parts) in
    let text : drop start new ≡ (digits ++ parts) ++ rest =
    written ∙ ap (λ t. digits ++ drop 20 t) was
    ∙ ap (λ k. digits ++ drop k (zeros ++ (parts ++ rest))) (sym size) ∙ ap (λ t. digits ++ t) (drop-append_seam zeros (parts ++ rest))
    ∙ sym (append_assoc digits parts rest) in
    take-take (32 - start) (start + 32 - start) (drop start new) (omega arith)
    ∙ ap (take (32 - start)) text ∙ ap (λ k. take k ((digits ++ parts) ++ rest)) all ∙ take-append_seam (digits ++ parts) rest

-- the text of an entry, its time apart
pub entry_parts : (between after : ℕ) (e : Entry)
    → decimal e.time ++ (between ∷ (bus_text e.bus ++ (between ∷ (hex_text e.word ++ (after ∷ []))))) ≡ entry_text between after e
entry_parts between after e = simp append_assoc

-- ---- an entry, put after the digits of its time but the last four

-- digits that end at the place 16
pub upper_written : (start : ℕ) (digits bytes rest : List ℕ)
    → start + length digits ≡ 16 → drop start bytes ≡ digits ++ rest → drop start (take 16 bytes) ≡ digits
upper_written start digits bytes rest ends written =
    ap (λ k. drop start (take k bytes)) (sym ends) ∙ drop-take start (length digits) bytes ∙ ap (take (length digits)) written
    ∙ take-append_seam digits rest

-- bytes written over at the place 16, and then at the place 20
pub written_over : (old mid new four fields later rest : List ℕ) → 20 ≤ length old → length four ≡ 4 → mid ≡ take 16 old ++ (four ++ later)
    → new ≡ take 20 mid ++ (fields ++ rest) → new ≡ take 16 old ++ (four ++ (fields ++ rest))
written_over old mid new four fields later rest size count first second =
    let upper : length (take 16 old) ≡ 16 = length-take-le 16 old (omega (arith, size)) in
    let twenty : length (take 16 old ++ four) ≡ 20 = omega (arith, length-append (take 16 old) four, upper, count) in
    let parted : mid ≡ (take 16 old ++ four) ++ later = first ∙ sym (append_assoc (take 16 old) four later) in
    second ∙ ap (λ t. t ++ (fields ++ rest)) (ap (take 20) parted ∙ take_at (take 16 old ++ four) later 20 twenty)
    ∙ append_assoc (take 16 old) four (fields ++ rest)

-- what is before the place 16 stays
pub upper_stays : (old new rest : List ℕ) → 20 ≤ length old → new ≡ take 16 old ++ rest → take 16 new ≡ take 16 old
upper_stays old new rest size is = ap (take 16) is ∙ take_at (take 16 old) rest 16 (length-take-le 16 old (omega (arith, size)))

-- the first of the 32 bytes from the first digit on
pub after_upper : (start : ℕ) (digits old four fields rest new : List ℕ) → 20 ≤ length old → start ≤ 16 → drop start (take 16 old) ≡ digits
    → length four ≡ 4 → length fields ≡ 12 → new ≡ take 16 old ++ (four ++ (fields ++ rest))
    → take (32 - start) (take (start + 32 - start) (drop start new)) ≡ digits ++ (four ++ fields)
after_upper start digits old four fields rest new size before was count twelve is =
    let upper : length (take 16 old) ≡ 16 = length-take-le 16 old (omega (arith, size)) in
    let left : length digits + start ≡ 16 = omega (arith, ap length was, length-drop start (take 16 old), upper, before) in
    let all : 32 - start ≡ length (digits ++ (four ++ fields)) =
    omega (arith, left, length-append digits (four ++ fields), length-append four fields, count, twelve) in
    let text : drop start new ≡ (digits ++ (four ++ fields)) ++ rest =
    ap (drop start) is ∙ drop-append-le start (take 16 old) (four ++ (fields ++ rest)) (omega (arith, before, upper))
    ∙ ap (λ d. d ++ (four ++ (fields ++ rest))) was ∙ simp append_assoc in
    take-take (32 - start) (start + 32 - start) (drop start new) (omega arith)
    ∙ ap (take (32 - start)) text ∙ ap (λ k. take k ((digits ++ (four ++ fields)) ++ rest)) all
    ∙ take-append_seam (digits ++ (four ++ fields)) rest

-- the text of an entry, its time in two
pub entry_of_two : (between after : ℕ) (e : Entry) (fields : List ℕ)
    → 10000 ≤ e.time → e.time < 2 ^ 64 → fields ≡ between ∷ (bus_text e.bus ++ (between ∷ (hex_text e.word ++ (after ∷ []))))
    → decimal (e.time / 10000) ++ ((pair (e.time % 10000 / 100) ++ pair (e.time % 10000 % 100)) ++ fields) ≡ entry_text between after e
entry_of_two between after e fields least small is =
    sym (append_assoc (decimal (e.time / 10000)) (pair (e.time % 10000 / 100) ++ pair (e.time % 10000 % 100)) fields)
    ∙ ap (λ t. t ++ fields) (sym (decimal_four e.time least small)) ∙ ap (λ f. decimal e.time ++ f) is ∙ entry_parts between after e
