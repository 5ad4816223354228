-- The eight bytes of a binary recording, and its pieces.
use Rattle.std.proofs.Common.{◌≡◌, ◌∙◌, ◌+◌, ◌*◌, ◌/◌, ◌%◌, ◌^◌, ◌<◌, ◌≤◌, ℕ, zero, suc, List, [], ◌∷◌, ◌++◌, map, length, take, drop, true, false, Some, inl, inr, refl, sym, ap, subst, append_assoc, arith, ◌==◌, eqb-true}
use Rattle.std.proofs.lemmas.Bool.{cases_Bool}
use Rattle.std.proofs.lemmas.Slice.Eq.{bytes_eq-Decides}
use Rattle.std.proofs.lemmas.List.{append-nil, take-append-drop, take-take, take_all, drop_all}
use Rattle.std.proofs.Math.Seq.{take-append_seam, drop-append_seam}
use Rattle.std.proofs.Math.Nat.{mod-eq_of_lt, div-one}
use Rattle.std.specs.Int.{byte_at, bytes_high_first}
use Rattle.byteorder.specs.Endian.{big_from}
use Rattle.byteorder.specs.Numbers.{big_from-cons, big_from-bytes}
use Rattle.a429_record.specs.declared.entry.Entry.{Entry}
use Rattle.a429_record.specs.Binary.{magic, is_binary, big_endian, big_endian_bytes, entry_bytes, pieces_within, pieces_of, piece_entry, piece_entries}

-- ---- the eight bytes

pub magic-is : (bytes : List ℕ) → is_binary bytes ≡ true → take 8 bytes ≡ magic
magic-is bytes h = (bytes_eq-Decides (take 8 bytes) magic).0 h

pub magic-split : (bytes : List ℕ) → is_binary bytes ≡ true → bytes ≡ magic ++ drop 8 bytes
magic-split bytes h = sym (take-append-drop 8 bytes) ∙ ap (λ (l : List ℕ). l ++ drop 8 bytes) (magic-is bytes h)

-- too few bytes are a text
pub short_text : (xs : List ℕ) → length xs < 8 → is_binary xs ≡ false
short_text xs few = elim (cases_Bool (is_binary xs)) [
  | inr text ↦ text
  | inl binary ↦ let all : xs ≡ magic = sym (take_all 8 xs (omega arith)) ∙ magic-is xs binary in absurd (omega (arith, ap length all))
]

-- so are bytes of which the first are others
pub other_text : (xs ys : List ℕ) → length xs ≤ 8 → (xs ≡ take (length xs) magic → ⊥) → is_binary (xs ++ ys) ≡ false
other_text xs ys few other = elim (cases_Bool (is_binary (xs ++ ys))) [
  | inr text ↦ text
  | inl binary ↦
      let front : take (length xs) (take 8 (xs ++ ys)) ≡ xs = take-take (length xs) 8 (xs ++ ys) few ∙ take-append_seam xs ys in
      absurd (other (sym front ∙ ap (take (length xs)) (magic-is (xs ++ ys) binary)))
]

-- a binary recording stays so, whatever comes behind it
pub still_binary : (xs ys : List ℕ) → is_binary xs ≡ true → is_binary (xs ++ ys) ≡ true
still_binary xs ys h =
    rw (magic-split xs h) refl

-- ---- pieces

-- room for more pieces changes nothing
pieces-room : (n m : ℕ) (xs : List ℕ) → length xs ≤ n → length xs ≤ m → pieces_within n xs ≡ pieces_within m xs
pieces-room zero zero [] p q = refl
pieces-room zero (suc m) [] p q = refl
pieces-room (suc n) zero [] p q = refl
pieces-room (suc n) (suc m) [] p q = refl
pieces-room zero m (x ∷ xs) p q = absurd (omega arith)
pieces-room (suc n) zero (x ∷ xs) p q = absurd (omega arith)
pieces-room (suc n) (suc m) (x ∷ xs) p q =
    let short : length (drop 12 xs) ≤ length xs = grind arith in
    ap (λ (l : List (List ℕ)). take entry_bytes (x ∷ xs) ∷ l) (pieces-room n m (drop 12 xs) (omega arith) (omega arith))

-- the first piece, and those behind it
pub pieces-first : (x : ℕ) (xs : List ℕ) → pieces_of (x ∷ xs) ≡ take entry_bytes (x ∷ xs) ∷ pieces_of (drop entry_bytes (x ∷ xs))
pieces-first x xs =
    let short : length (drop 12 xs) ≤ length xs = grind arith in
    ap (λ (l : List (List ℕ)). take entry_bytes (x ∷ xs) ∷ l)
    (pieces-room (length xs) (length (drop 12 xs)) (drop 12 xs) (omega arith) (omega arith))

-- a whole piece, and others behind it
pub pieces-whole : (piece rest : List ℕ) → length piece ≡ entry_bytes → pieces_of (piece ++ rest) ≡ piece ∷ pieces_of rest
pieces-whole [] rest h = absurd (omega arith)
pieces-whole (x ∷ xs) rest h =
    let front : take entry_bytes ((x ∷ xs) ++ rest) ≡ x ∷ xs =
    subst (λ (n : ℕ). take n ((x ∷ xs) ++ rest) ≡ x ∷ xs) h (take-append_seam (x ∷ xs) rest) in
    let back : drop entry_bytes ((x ∷ xs) ++ rest) ≡ rest =
    subst (λ (n : ℕ). drop n ((x ∷ xs) ++ rest) ≡ rest) h (drop-append_seam (x ∷ xs) rest) in
    pieces-first x (xs ++ rest) ∙ rw (front, back) refl

-- a piece alone, which may have fewer bytes
pub pieces-last : (piece : List ℕ) → 0 < length piece → length piece ≤ entry_bytes → pieces_of piece ≡ piece ∷ []
pieces-last [] some few = absurd (omega arith)
pieces-last (x ∷ xs) some few =
    let front : take entry_bytes (x ∷ xs) ≡ x ∷ xs = take_all entry_bytes (x ∷ xs) few in
    let back : drop entry_bytes (x ∷ xs) ≡ [] = drop_all entry_bytes (x ∷ xs) few in
    pieces-first x xs ∙ rw (front, back) refl

-- a piece that names an entry is whole
pub piece_size : (piece : List ℕ) (e : Entry) → piece_entry piece ≡ Some e → length piece ≡ entry_bytes
piece_size piece e is = elim (cases_Bool (length piece == entry_bytes)) [
  | inl whole ↦ eqb-true _ _ whole
  | inr cut ↦ cc (rw cut at is)
]

-- its rest is that of the other pieces
pub pieces-next : (piece rest : List ℕ)
    → length piece ≡ entry_bytes → piece_entries (piece ++ rest) ≡ piece_entry piece ∷ piece_entries rest
pieces-next piece rest h = ap (map piece_entry) (pieces-whole piece rest h)

pub piece_alone : (piece : List ℕ) (e : Entry) → piece_entry piece ≡ Some e → piece_entries piece ≡ Some e ∷ []
piece_alone piece e is =
    ap piece_entries (sym (append-nil piece)) ∙ pieces-next piece [] (piece_size piece e is) ∙ rw is refl

-- one more behind entries' pieces
pub piece_behind : (front piece : List ℕ) (es : List Entry) (e : Entry) → piece_entries front ≡ map Some es → piece_entry piece ≡ Some e
    → piece_entries (front ++ piece) ≡ map Some (es ++ (e ∷ []))
piece_behind front piece es e h is = from (length front) front es (omega arith) h where
  from : (n : ℕ) (front : List ℕ) (es : List Entry)
      → length front ≤ n → piece_entries front ≡ map Some es → piece_entries (front ++ piece) ≡ map Some (es ++ (e ∷ []))
  from n [] [] few h = piece_alone piece e is
  from n [] (x ∷ es) few h = cc h
  from zero (b ∷ bs) es few h = absurd (omega arith)
  from (suc n) (b ∷ bs) [] few h = cc (sym (ap (map piece_entry) (pieces-first b bs)) ∙ h)
  from (suc n) (b ∷ bs) (x ∷ es) few h =
      let head = take entry_bytes (b ∷ bs) in
      let tail = drop entry_bytes (b ∷ bs) in
      let split : piece_entry head ∷ piece_entries tail ≡ Some x ∷ map Some es = sym (ap (map piece_entry) (pieces-first b bs)) ∙ h in
      let first : piece_entry head ≡ Some x = cc split in
      let rest : piece_entries tail ≡ map Some es = cc split in
      let short : length tail ≤ n = grind arith in
      let all : (b ∷ bs) ++ piece ≡ head ++ (tail ++ piece) =
      ap (λ (l : List ℕ). l ++ piece) (sym (take-append-drop entry_bytes (b ∷ bs))) ∙ append_assoc head tail piece in
      ap piece_entries all ∙ pieces-next head (tail ++ piece) (piece_size head x first) ∙ rw (first, from n tail es short rest) refl

-- ---- numbers

pub length-big_endian_bytes : (n x : ℕ) → length (big_endian_bytes n x) ≡ n
length-big_endian_bytes zero x = refl
length-big_endian_bytes (suc n) x = ap suc (length-big_endian_bytes n x)

-- the kit's numbers and bytes are these
number-is : (xs : List ℕ) → big_endian xs ≡ big_from 0 (length xs) xs
number-is [] = refl
number-is (x ∷ xs) = ap (λ (n : ℕ). x * 256 ^ length xs + n) (number-is xs ∙ sym (big_from-cons 0 (length xs) x xs))

byte-is : (n x : ℕ) → x / 256 ^ n % 256 ≡ byte_at n x
byte-is zero x = ap (λ (y : ℕ). y % 256) (div-one x)
byte-is (suc n) x = refl

bytes-are : (n x : ℕ) → big_endian_bytes n x ≡ bytes_high_first n x
bytes-are zero x = refl
bytes-are (suc n) x = rw (byte-is n x, bytes-are n x) refl

-- the number that its bytes write
pub big_endian-back : (n x : ℕ) → x < 256 ^ n → big_endian (big_endian_bytes n x) ≡ x
big_endian-back n x h =
    let value : big_from 0 n (bytes_high_first n x ++ []) ≡ x % 256 ^ n = big_from-bytes n x [] in
    number-is (big_endian_bytes n x) ∙ ap (λ (k : ℕ). big_from 0 k (big_endian_bytes n x)) (length-big_endian_bytes n x)
    ∙ ap (big_from 0 n) (bytes-are n x ∙ sym (append-nil (bytes_high_first n x))) ∙ value ∙ mod-eq_of_lt h
