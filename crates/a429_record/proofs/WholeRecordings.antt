-- What rows stand for where there is no fault, in either format.
use Rattle.std.proofs.Common.{◌≡◌, ◌==◌, ◌∙◌, ◌+◌, ◌≤◌, ℕ, List, [], ◌∷◌, map, length, drop, true, false, Option, Some, None, inl, inr, nat_lt, refl, sym, ap, subst, arith}
use Rattle.std.proofs.lemmas.Bool.{cases_Bool}
use Rattle.std.proofs.lemmas.Bool.Decides.{nat_tests}
use Rattle.a429_record.specs.declared.entry.Entry.{Entry}
use Rattle.a429_record.specs.declared.fault.ReadFault.{ReadFault}
use Rattle.a429_record.specs.declared.fault.ReadFault.TheVariants as fault
use Rattle.a429_record.specs.Row.{Row, is_header, entry_in}
use Rattle.a429_record.specs.Binary.{is_binary, piece_entries}
use Rattle.a429_record.specs.Recording.{Recording, most_entries, row_stands_for, entries_stand_for, all_rows_stand_for, text_stands_for, binary_stands_for, stands_for, rows_of, whole, stops, NeverFalls, IsWithin}
use Rattle.a429_record.specs.WholeRecordings.{IsWholeText, IsWholeBinary}
use Rattle.a429_record.proofs.BinaryFacts.{magic-split}

-- ---- by their format

pub text-stands : (bytes : List ℕ) → is_binary bytes ≡ false → stands_for bytes ≡ text_stands_for most_entries bytes
text-stands bytes text = rw text refl

pub binary-stands : (bytes : List ℕ) → is_binary bytes ≡ true → stands_for bytes ≡ binary_stands_for most_entries bytes
binary-stands bytes binary = rw binary refl

-- ---- from the rows

pub entries-whole : (most n last : ℕ) (es : List Entry)
    → n + length es ≤ most → NeverFalls last es → entries_stand_for most n last (map Some es) ≡ whole es
entries-whole most n last [] few up = refl
entries-whole most n last (x ∷ es) few up =
    let least : last ≤ x.time = up.0 in
    let room : (n == most) ≡ false = grind (arith, nat_tests) in
    let kept : nat_lt x.time last ≡ false = grind (arith, nat_tests) in
    rw (room, kept, entries-whole most (n + 1) x.time es (omega arith) up.1) refl

-- all entries, from the first on
pub recordable-whole : (most : ℕ) (rows : List (Option Entry)) (es : List Entry)
    → rows ≡ map Some es → IsWithin most es → entries_stand_for most 0 0 rows ≡ whole es
recordable-whole most rows es is h = ap (entries_stand_for most 0 0) is ∙ entries-whole most 0 0 es (omega (arith, h.0)) h.1

pub text-whole : (bytes : List ℕ) (es : List Entry) → is_binary bytes ≡ false → IsWholeText bytes es → stands_for bytes ≡ whole es
text-whole bytes es text w = text-stands bytes text ∙ ap (all_rows_stand_for most_entries) w.all
    ∙ rw w.first (recordable-whole most_entries (map entry_in w.rows) es w.entries w.recordable)

pub binary-whole : (bytes : List ℕ) (es : List Entry) → IsWholeBinary bytes es → stands_for bytes ≡ whole es
binary-whole bytes es w = rw w.0.all (recordable-whole most_entries (piece_entries w.0.following) es w.0.entries w.1)

-- ---- and back

-- what stops at a fault is not whole
faulty : (f : ReadFault) (es : List Entry) → stops f ≡ whole es → ⊥
faulty f es e = cc (ap (λ (t : Recording). t.fault) e)

nothing_more : (x : Entry) (es : List Entry) → whole [] ≡ whole (x ∷ es) → ⊥
nothing_more x es e = cc (ap (λ (t : Recording). t.entries) e)

-- a row that makes no fault
record StandsForEntry (n last : ℕ) (o : Option Entry) (more : Entry → Recording) (es : List Entry) : Type 0 where
  entry : Entry
  is : o ≡ Some entry
  up : last ≤ entry.time
  es_is : es ≡ entry ∷ (more entry).entries
  none : (more entry).fault ≡ None

row-stands : (n last : ℕ) (o : Option Entry) (more : Entry → Recording) (es : List Entry) → row_stands_for n last o more ≡ whole es
    → StandsForEntry n last o more es
row-stands n last None more es e = absurd (faulty (fault.Row n) es e)
row-stands n last (Some x) more es e = elim (cases_Bool (nat_lt x.time last)) [
  | inl back ↦ absurd (faulty (fault.TimeBack n) es (rw back at e))
  | inr kept ↦
      let rest = rw kept at e in
      let least : last ≤ x.time = grind (arith, nat_tests) in
      record {
        entry = x;
        is = refl;
        up = least;
        es_is = sym (ap (λ (t : Recording). t.entries) rest);
        none = ap (λ (t : Recording). t.fault) rest;
      }
]

first_entry : (r : Option Entry) (x : Entry) (rows : List (Option Entry)) (es : List Entry)
    → r ≡ Some x → rows ≡ map Some es → r ∷ rows ≡ map Some (x ∷ es)
first_entry r x rows es here rest = rw (here, rest) refl

entries-of : (n last : ℕ) (rows : List (Option Entry)) (es : List Entry)
    → n ≤ most_entries → entries_stand_for most_entries n last rows ≡ whole es
    → (rows ≡ map Some es) × (n + length es ≤ most_entries) × NeverFalls last es
entries-of n last [] [] few e = (refl, omega arith, tt)
entries-of n last [] (x ∷ es) few e = absurd (nothing_more x es e)
entries-of n last (r ∷ rows) es few e = elim (cases_Bool (n == most_entries)) [
  | inl full ↦ absurd (faulty fault.TooMany es (rw full at e))
  | inr room ↦
      let w = row-stands n last r (λ x. entries_stand_for most_entries (n + 1) x.time rows) es (rw room at e) in
      let rest = entries_stand_for most_entries (n + 1) w.entry.time rows in
      let more : n + 1 ≤ most_entries = grind (arith, nat_tests) in
      let same : rest ≡ whole rest.entries = ap (λ (f : Option ReadFault). record { entries = rest.entries; fault = f }) w.none in
      let (maps, count, up) = entries-of (n + 1) w.entry.time rows rest.entries more same in
      let first = first_entry r w.entry rows rest.entries w.is maps in
      let Kept : List Entry → Type 0 = λ xs. (r ∷ rows ≡ map Some xs) × (n + length xs ≤ most_entries) × NeverFalls last xs in
      subst Kept (sym w.es_is) (first, omega arith, (w.up, up))
]

pub whole-text : (bytes : List ℕ) (es : List Entry) → is_binary bytes ≡ false → stands_for bytes ≡ whole es → IsWholeText bytes es
whole-text bytes es text e = from_rows (rows_of bytes) refl (sym (text-stands bytes text) ∙ e) where
  from_rows : (rows : List Row) → rows_of bytes ≡ rows → all_rows_stand_for most_entries rows ≡ whole es → IsWholeText bytes es
  from_rows [] is e = absurd (faulty fault.Header es e)
  from_rows (r ∷ rows) is e = elim (cases_Bool (is_header r)) [
    | inl first ↦
        let t = entries-of 0 0 (map entry_in rows) es (omega arith) (rw first at e) in
        record { header = r; rows = rows; all = is; first = first; entries = t.0; recordable = (omega (arith, t.1), t.2) }
    | inr other ↦ absurd (faulty fault.Header es (rw other at e))
  ]

pub whole-binary : (bytes : List ℕ) (es : List Entry) → is_binary bytes ≡ true → stands_for bytes ≡ whole es → IsWholeBinary bytes es
whole-binary bytes es binary e =
    let t = entries-of 0 0 (piece_entries (drop 8 bytes)) es (omega arith) (sym (binary-stands bytes binary) ∙ e) in
    (record { following = drop 8 bytes; all = magic-split bytes binary; entries = t.0 }, (omega (arith, t.1), t.2))
