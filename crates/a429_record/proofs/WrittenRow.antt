-- Rows that are as they are written of their entries.
use Rattle.std.proofs.Common.{◌≡◌, ◌≢◌, ◌∙◌, ℕ, zero, suc, ◌+◌, ◌^◌, ◌<◌, ◌≤◌, List, [], ◌∷◌, ◌++◌, length, get_or, take, refl, ap, arith, Some, sym, length-append, append_assoc}
use Rattle.std.specs.Fmt.{decimal}
use Rattle.std.specs.Str.Parse.{digits_value}
use Rattle.std.proofs.lemmas.Bool.Decides.{nat_tests}
use Rattle.std.proofs.lemmas.Fmt.{decimal-digits_value, length-decimal-le}
use Rattle.std.proofs.lemmas.Str.Parse.{numerals_by_value, tells_digits}
use Rattle.std.proofs.lemmas.List.{length-take-le, take_more}
use Rattle.a429_word.specs.declared.bus.Bus.{Bus}
use Rattle.a429_word.specs.declared.bus.Bus.TheVariants.{A, B}
use Rattle.a429_word.specs.Digits.{hex_text}
use Rattle.a429_word.specs.Bus.{bus_text}
use Rattle.a429_word.proofs.DigitsFacts.{length-hex_text}
use Rattle.a429_record.specs.declared.entry.Entry.{Entry}
use Rattle.a429_record.specs.Row.{time_in, bus_in, word_in}
use Rattle.a429_record.specs.Plain.{IsFront, IsPlainRow}
use Rattle.a429_record.specs.Writing.{line_text}
use Rattle.a429_record.proofs.RowDigits.{all_digits-to}
use Rattle.a429_record.proofs.LinePlain.{time_plain}

-- numbers are equal, where they cannot differ
pub same_or : (a b : ℕ) → (a ≢ b → ⊥) → a ≡ b
same_or a b h = grind (arith, nat_tests, h)

-- ---- the fields

time_value : (t : List ℕ) (n : ℕ) → time_in t ≡ Some n → (digits_value 10 t ≡ n) × (n < 2 ^ 64)
time_value t n h = grind (arith, nat_tests)

time_is : (t : List ℕ) (n : ℕ) → time_in t ≡ Some n → (get_or t 0 0 ≡ 48 → length t ≡ 1) → t ≡ decimal n
time_is t n h lead =
    let (some, all) = time_plain t (rw h refl) in
    let (value, small) = time_value t n h in
    sym (decimal-digits_value (numerals_by_value _ tells_digits) t (all_digits-to 10 t all) (omega arith) lead (omega arith))
    ∙ ap decimal value

bus_is : (x : List ℕ) (b : Bus) → bus_in x ≡ Some b → x ≡ bus_text b
bus_is [] b h = cc h
bus_is (x ∷ []) A h = grind (arith, nat_tests)
bus_is (x ∷ []) B h = grind (arith, nat_tests)
bus_is (x ∷ y ∷ xs) b h = cc h

bus_length : (b : Bus) → length (bus_text b) ≡ 1
bus_length A = refl
bus_length B = refl

first_of : (xs ys : List ℕ) → 1 ≤ length xs → get_or (xs ++ ys) 0 0 ≡ get_or xs 0 0
first_of [] ys some = absurd (omega arith)
first_of (x ∷ xs) ys some = refl

-- ---- the row

pub plain_of : (row word : List ℕ) (e : Entry) → IsFront row e.time e.bus word → word_in word ≡ Some e.word → IsPlainRow row e
plain_of row word e h says = record {
  time = h.digits;
  bus = h.letter;
  word = word;
  layout = h.layout;
  says = rw (h.timed, h.heard, says) refl;
}

-- its time has no 0 in front, unless it is 0
own_line : (row word : List ℕ) (e : Entry)
    → IsFront row e.time e.bus word → word ≡ hex_text e.word → (get_or row 0 0 ≡ 48 → length row ≡ 12) → row ++ (10 ∷ []) ≡ line_text e
own_line row word e h hex own =
    let (some, digits) = time_plain h.digits (rw h.timed refl) in
    let bus = bus_is h.letter e.bus h.heard in
    let one : length h.letter ≡ 1 = ap length bus ∙ bus_length e.bus in
    let size : length row ≡ length h.digits + 11 = omega (
      arith,
      ap length h.layout,
      length-append h.digits (44 ∷ (h.letter ++ (44 ∷ word))),
      length-append h.letter (44 ∷ word),
      one,
      h.eight,
    ) in
    let first : get_or row 0 0 ≡ get_or h.digits 0 0 =
    ap (λ (r : List ℕ). get_or r 0 0) h.layout ∙ first_of h.digits (44 ∷ (h.letter ++ (44 ∷ word))) some in
    let time = time_is h.digits e.time h.timed (λ zero. omega (arith, own (first ∙ zero), size)) in
    ap (λ (r : List ℕ). r ++ (10 ∷ [])) (h.layout ∙ ap (λ (t : List ℕ). t ++ (44 ∷ (h.letter ++ (44 ∷ word)))) time
    ∙ ap (λ (t : List ℕ). decimal e.time ++ (44 ∷ (t ++ (44 ∷ word)))) bus
    ∙ ap (λ (t : List ℕ). decimal e.time ++ (44 ∷ (bus_text e.bus ++ (44 ∷ t)))) hex)
    ∙ simp append_assoc

-- the byte after the first so many
pub next_byte : (bytes : List ℕ) (n x : ℕ) → n < length bytes → get_or bytes n x ≡ 10 → take (n + 1) bytes ≡ take n bytes ++ (10 ∷ [])
next_byte bytes n x inside is = take_more bytes n x inside ∙ ap (λ y. take n bytes ++ y ∷ []) is

pub written_line : (bytes word : List ℕ) (n : ℕ) (e : Entry)
    → take (n + 1) bytes ≡ take n bytes ++ (10 ∷ []) → n ≤ length bytes → IsFront (take n bytes) e.time e.bus word → word ≡ hex_text e.word
    → (get_or bytes 0 0 ≡ 48 → n ≡ 12) → take (n + 1) bytes ≡ line_text e
written_line bytes word n e more inside h hex own =
    let size = length-take-le n bytes inside in
    more ∙ own_line (take n bytes) word e h hex
    (λ zero. size ∙ own (sym (first_taken n bytes (some_taken (take n bytes) word e h)) ∙ zero)) where
      some_taken : (row word : List ℕ) (e : Entry) → IsFront row e.time e.bus word → 1 ≤ length row
      some_taken row word e h = omega (arith, ap length h.layout, length-append h.digits (44 ∷ (h.letter ++ (44 ∷ word))))

      first_taken : (n : ℕ) (bytes : List ℕ) → 1 ≤ length (take n bytes) → get_or (take n bytes) 0 0 ≡ get_or bytes 0 0
      first_taken zero bytes some = absurd (omega arith)
      first_taken (suc n) [] some = refl
      first_taken (suc n) (x ∷ xs) some = refl

pub line_length : (e : Entry) → e.time < 2 ^ 64 → length (line_text e) ≤ 32
line_length e small =
    let time : length (decimal e.time) ≤ 20 = length-decimal-le 20 e.time (omega arith) (omega arith) small in
    let is : line_text e ≡ decimal e.time ++ (44 ∷ (bus_text e.bus ++ (44 ∷ (hex_text e.word ++ (10 ∷ []))))) = simp append_assoc in
    omega (
      arith,
      ap length is,
      time,
      bus_length e.bus,
      length-hex_text e.word,
      length-append (decimal e.time) (44 ∷ (bus_text e.bus ++ (44 ∷ (hex_text e.word ++ (10 ∷ []))))),
      length-append (bus_text e.bus) (44 ∷ (hex_text e.word ++ (10 ∷ []))),
      length-append (hex_text e.word) (10 ∷ []),
    )
