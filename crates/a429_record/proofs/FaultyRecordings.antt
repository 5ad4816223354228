-- What rows stand for where there is a fault, in either format.
use Rattle.std.proofs.Common.{◌≡◌, ◌==◌, ◌∙◌, ◌+◌, ◌<◌, ◌≤◌, ℕ, List, [], ◌∷◌, ◌++◌, map, length, drop, true, false, Option, Some, None, ◌⊎◌, inl, inr, nat_lt, refl, sym, ap, subst, arith}
use Rattle.std.proofs.lemmas.Bool.{cases_Bool}
use Rattle.std.proofs.lemmas.Bool.Decides.{nat_tests}
use Rattle.a429_record.specs.declared.entry.Entry.{Entry}
use Rattle.a429_record.specs.declared.fault.ReadFault.{ReadFault}
use Rattle.a429_record.specs.declared.fault.ReadFault.TheVariants as fault
use Rattle.a429_record.specs.Row.{Row, is_header, entry_in}
use Rattle.a429_record.specs.Binary.{is_binary, piece_entries}
use Rattle.a429_record.specs.Recording.{Recording, most_entries, row_stands_for, entries_stand_for, all_rows_stand_for, stands_for, rows_of, whole, stops, NeverFalls}
use Rattle.a429_record.specs.FaultyRecordings.{stops_after, EndsAbove, IsRefusedRow, IsRefusedAmong, IsRefusedAfter, HasNoHeader, IsFaultyText, IsFaultyBinary}
use Rattle.a429_record.proofs.BinaryFacts.{magic-split}
use Rattle.a429_record.proofs.RecordingTimes.{last_time, last_time-push}
use Rattle.a429_record.proofs.WholeRecordings.{text-stands, binary-stands}

-- a row that is refused after n entries, the last of them at the time `last`
abbrev Refuses : ℕ → ℕ → Option Entry → ReadFault → Type 0
Refuses n last row fault.TooMany = n ≡ most_entries
Refuses n last row (fault.Row i) = (i ≡ n) × (i < most_entries) × (row ≡ None)
Refuses n last row (fault.TimeBack i) = (i ≡ n) × (i < most_entries) × ((e : Entry) × (row ≡ Some e) × (e.time < last))
Refuses n last row _ = ⊥

-- ---- from the rows

refused-stops : (n last : ℕ) (row : Option Entry) (following : List (Option Entry)) (f : ReadFault)
    → Refuses n last row f → entries_stand_for most_entries n last (row ∷ following) ≡ stops f
refused-stops n last row following fault.Header h = absurd h
refused-stops n last row following fault.Device h = absurd h
refused-stops n last row following fault.OutOfMemory h = absurd h
refused-stops n last row following fault.Failed h = absurd h
refused-stops n last row following fault.TooMany h =
    let full : (n == most_entries) ≡ true = grind (arith, nat_tests) in rw full refl
refused-stops n last row following (fault.Row i) h =
    let room : (n == most_entries) ≡ false = grind (arith, nat_tests) in
    rw (room, h.2) (ap (λ k. stops (fault.Row k)) (sym h.0))
refused-stops n last row following (fault.TimeBack i) h =
    let room : (n == most_entries) ≡ false = grind (arith, nat_tests) in
    let back : nat_lt h.2.0.time last ≡ true = grind (arith, nat_tests) in
    rw (room, h.2.1, back) (ap (λ k. stops (fault.TimeBack k)) (sym h.0))

-- entries come before what the rest stands for
entries-after : (n last : ℕ) (rest : List (Option Entry)) (es : List Entry) (f : ReadFault)
    → n + length es ≤ most_entries → NeverFalls last es
    → entries_stand_for most_entries (n + length es) (last_time last es) rest ≡ stops f
    → entries_stand_for most_entries n last (map Some es ++ rest) ≡ stops_after es f
entries-after n last rest [] f few up h = let none : n + 0 ≡ n = omega arith in rw none at h
entries-after n last rest (x ∷ es) f few up h =
    let least : last ≤ x.time = up.0 in
    let room : (n == most_entries) ≡ false = grind (arith, nat_tests) in
    let kept : nat_lt x.time last ≡ false = grind (arith, nat_tests) in
    let count : n + length (x ∷ es) ≡ n + 1 + length es = omega arith in
    let after =
    entries-after (n + 1) x.time rest es f (omega arith) up.1
    (subst (λ (k : ℕ). entries_stand_for most_entries k (last_time x.time es) rest ≡ stops f) count h) in
    rw (room, kept, after) refl

refuses : (es : List Entry) (row : Option Entry) (f : ReadFault) → IsRefusedRow es row f → Refuses (0 + length es) (last_time 0 es) row f
refuses es row fault.Header h = absurd h
refuses es row fault.Device h = absurd h
refuses es row fault.OutOfMemory h = absurd h
refuses es row fault.Failed h = absurd h
refuses es row fault.TooMany h = omega (arith, h)
refuses es row (fault.Row i) h = (omega (arith, h.0), h.1, h.2)
refuses es row (fault.TimeBack i) h =
    let above = h.2.2 in
    let last : last_time 0 es ≡ above.1.time = ap (last_time 0) above.2 ∙ last_time-push 0 above.0 above.1 in
    (omega (arith, h.0), h.1, (h.2.0, h.2.1, rw last above.3))

refused-stands : (rows : List (Option Entry)) (es : List Entry) (f : ReadFault)
    → IsRefusedAmong rows es f → entries_stand_for most_entries 0 0 rows ≡ stops_after es f
refused-stands rows es f w =
    let c = w.comes in
    let stop = refused-stops (0 + length es) (last_time 0 es) w.entry c.following f (refuses es w.entry f w.refused) in
    ap (entries_stand_for most_entries 0 0) c.all
    ∙ entries-after 0 0 (w.entry ∷ c.following) es f (omega (arith, c.recordable.0)) c.recordable.1 stop

following-stands : (rows : List Row) (es : List Entry) (f : ReadFault)
    → IsRefusedAfter rows es f → all_rows_stand_for most_entries rows ≡ stops_after es f
following-stands rows es f w = ap (all_rows_stand_for most_entries) w.all ∙ rw w.first (refused-stands (map entry_in w.more) es f w.among)

headless : (rows : List Row) → HasNoHeader rows → all_rows_stand_for most_entries rows ≡ stops fault.Header
headless [] h = refl
headless (r ∷ rows) h = rw h refl

text-faulty : (bytes : List ℕ) (es : List Entry) (f : ReadFault)
    → IsFaultyText bytes es f → all_rows_stand_for most_entries (rows_of bytes) ≡ stops_after es f
text-faulty bytes es fault.Header h = headless (rows_of bytes) h.1 ∙ ap (λ (l : List Entry). stops_after l fault.Header) (sym h.0)
text-faulty bytes es (fault.Row i) h = following-stands (rows_of bytes) es (fault.Row i) h
text-faulty bytes es (fault.TimeBack i) h = following-stands (rows_of bytes) es (fault.TimeBack i) h
text-faulty bytes es fault.TooMany h = following-stands (rows_of bytes) es fault.TooMany h
text-faulty bytes es fault.Device h = following-stands (rows_of bytes) es fault.Device h
text-faulty bytes es fault.OutOfMemory h = following-stands (rows_of bytes) es fault.OutOfMemory h
text-faulty bytes es fault.Failed h = following-stands (rows_of bytes) es fault.Failed h

pub faulty_text-stands : (bytes : List ℕ) (es : List Entry) (f : ReadFault)
    → is_binary bytes ≡ false → IsFaultyText bytes es f → stands_for bytes ≡ stops_after es f
faulty_text-stands bytes es f text h = text-stands bytes text ∙ text-faulty bytes es f h

pub faulty_binary-stands : (bytes : List ℕ) (es : List Entry) (f : ReadFault)
    → IsFaultyBinary bytes es f → stands_for bytes ≡ stops_after es f
faulty_binary-stands bytes es f w = rw w.all (refused-stands (piece_entries w.following) es f w.among)

-- ---- and back

-- the row at which a fault stops rows
record StopsAt (n last : ℕ) (rows : List (Option Entry)) (es : List Entry) (f : ReadFault) : Type 0 where
  row : Option Entry
  following : List (Option Entry)
  all : rows ≡ map Some es ++ (row ∷ following)
  few : n + length es ≤ most_entries
  up : NeverFalls last es
  refuses : Refuses (n + length es) (last_time last es) row f

-- at once
stops_here : (n last : ℕ) (r : Option Entry) (rows : List (Option Entry)) (es : List Entry) (f g : ReadFault)
    → n ≤ most_entries → stops g ≡ stops_after es f → Refuses n last r g
    → StopsAt n last (r ∷ rows) es f
stops_here n last r rows es f g few e h =
    let none : [] ≡ es = ap (λ (t : Recording). t.entries) e in
    let same : g ≡ f = cc (ap (λ (t : Recording). t.fault) e) in
    let zero : n ≡ n + length {A = Entry} [] = omega arith in
    let moved : Refuses (n + length {A = Entry} []) last r g = subst (λ (k : ℕ). Refuses k last r g) zero h in
    let There : List Entry → Type 0 = λ l. StopsAt n last (r ∷ rows) l f in
    subst There none (record {
      row = r;
      following = rows;
      all = refl;
      few = omega arith;
      up = tt;
      refuses = subst (λ (x : ReadFault). Refuses (n + length {A = Entry} []) last r x) same moved;
    })

-- after an entry
stops_later : (n last : ℕ) (r : Option Entry) (x : Entry) (rows : List (Option Entry)) (es : List Entry) (f : ReadFault)
    → r ≡ Some x → last ≤ x.time
    → StopsAt (n + 1) x.time rows es f → StopsAt n last (r ∷ rows) (x ∷ es) f
stops_later n last r x rows es f here least s =
    let count : n + 1 + length es ≡ n + length (x ∷ es) = omega arith in
    let all : r ∷ rows ≡ Some x ∷ (map Some es ++ (s.row ∷ s.following)) = rw (here, s.all) refl in
    record {
      row = s.row;
      following = s.following;
      all = all;
      few = omega (arith, s.few);
      up = (least, s.up);
      refuses = subst (λ (k : ℕ). Refuses k (last_time x.time es) s.row f) count s.refuses;
    }

-- a row that names an entry, and the rest with the fault
record TellsOn (last : ℕ) (o : Option Entry) (more : Entry → Recording) (es : List Entry) (f : ReadFault) : Type 0 where
  entry : Entry
  is : o ≡ Some entry
  up : last ≤ entry.time
  es_is : (entry ∷ (more entry).entries) ≡ es
  rest : (more entry).fault ≡ Some f

-- a row makes the fault, or names an entry
abbrev Either : ℕ → ℕ → Option Entry → (Entry → Recording) → List Entry → ReadFault → Type 0
Either n last r more es f = ((g : ReadFault) × (stops g ≡ stops_after es f) × Refuses n last r g) ⊎ TellsOn last r more es f

row-stands : (n last : ℕ) (r o : Option Entry) (more : Entry → Recording) (es : List Entry) (f : ReadFault) → n < most_entries → r ≡ o
    → row_stands_for n last o more ≡ stops_after es f → Either n last r more es f
row-stands n last r None more es f under is e = inl (fault.Row n, e, (refl, under, is))
row-stands n last r (Some x) more es f under is e = elim (cases_Bool (nat_lt x.time last)) [
  | inl back ↦ let below : x.time < last = grind (arith, nat_tests) in inl (fault.TimeBack n, rw back at e, (refl, under, (x, is, below)))
  | inr kept ↦
      let on = rw kept at e in
      let least : last ≤ x.time = grind (arith, nat_tests) in
      inr
      (record { entry = x; is = is; up = least; es_is = ap (λ (t : Recording). t.entries) on; rest = ap (λ (t : Recording). t.fault) on })
]

nothing_stops : (es : List Entry) (f : ReadFault) → whole [] ≡ stops_after es f → ⊥
nothing_stops es f e = cc (ap (λ (t : Recording). t.fault) e)

rows-stop : (n last : ℕ) (rows : List (Option Entry)) (es : List Entry) (f : ReadFault)
    → n ≤ most_entries → entries_stand_for most_entries n last rows ≡ stops_after es f → StopsAt n last rows es f
rows-stop n last [] es f few e = absurd (nothing_stops es f e)
rows-stop n last (r ∷ rows) es f few e = elim (cases_Bool (n == most_entries)) [
  | inl full ↦ let all : n ≡ most_entries = grind (arith, nat_tests) in stops_here n last r rows es f fault.TooMany few (rw full at e) all
  | inr room ↦
      let under : n < most_entries = grind (arith, nat_tests) in
      elim (row-stands n last r r (λ x. entries_stand_for most_entries (n + 1) x.time rows) es f under refl (rw room at e)) [
        | inl h ↦ stops_here n last r rows es f h.0 few h.1 h.2
        | inr w ↦
            let rest = entries_stand_for most_entries (n + 1) w.entry.time rows in
            let same : rest ≡ stops_after rest.entries f =
            ap (λ (o : Option ReadFault). record { entries = rest.entries; fault = o }) w.rest in
            let later = rows-stop (n + 1) w.entry.time rows rest.entries f (omega arith) same in
            let There : List Entry → Type 0 = λ l. StopsAt n last (r ∷ rows) l f in
            subst There w.es_is (stops_later n last r w.entry rows rest.entries f w.is w.up later)
      ]
]

-- the last entry stands behind the others
record Last (t : ℕ) (es : List Entry) : Type 0 where
  earlier : List Entry
  last : Entry
  all : es ≡ earlier ++ (last ∷ [])
  time : t ≡ last.time

last_of : (x : Entry) (es : List Entry) → Last (last_time x.time es) (x ∷ es)
last_of x [] = record { earlier = []; last = x; all = refl; time = refl }
last_of x (y ∷ es) =
    let l = last_of y es in
    record { earlier = x ∷ l.earlier; last = l.last; all = ap (λ (k : List Entry). x ∷ k) l.all; time = l.time }

ends_above : (t : ℕ) (es : List Entry) → t < last_time 0 es → EndsAbove t es
ends_above t [] h = absurd (omega arith)
ends_above t (x ∷ es) h = let l = last_of x es in (l.earlier, l.last, l.all, rw l.time at h)

refused : (es : List Entry) (row : Option Entry) (f : ReadFault) → Refuses (0 + length es) (last_time 0 es) row f → IsRefusedRow es row f
refused es row fault.Header h = absurd h
refused es row fault.Device h = absurd h
refused es row fault.OutOfMemory h = absurd h
refused es row fault.Failed h = absurd h
refused es row fault.TooMany h = omega (arith, h)
refused es row (fault.Row i) h = (omega (arith, h.0), h.1, h.2)
refused es row (fault.TimeBack i) h = (omega (arith, h.0), h.1, (h.2.0, h.2.1, ends_above h.2.0.time es h.2.2))

refused_among : (rows : List (Option Entry)) (es : List Entry) (f : ReadFault) → StopsAt 0 0 rows es f → IsRefusedAmong rows es f
refused_among rows es f s = record {
  entry = s.row;
  comes = record { following = s.following; all = s.all; recordable = (omega (arith, s.few), s.up) };
  refused = refused es s.row f s.refuses;
}

refused_behind : (header : Row) (rows all : List Row) (es : List Entry) (f : ReadFault)
    → all ≡ header ∷ rows → is_header header ≡ true → StopsAt 0 0 (map entry_in rows) es f
    → IsRefusedAfter all es f
refused_behind header rows all es f is first s =
    record { header = header; more = rows; all = is; first = first; among = refused_among (map entry_in rows) es f s }

-- what stops behind the header is no fault of the header, of the device or of memory
after_header : (bytes : List ℕ) (header : Row) (rows : List Row) (es : List Entry) (f : ReadFault)
    → rows_of bytes ≡ header ∷ rows → is_header header ≡ true
    → StopsAt 0 0 (map entry_in rows) es f → IsFaultyText bytes es f
after_header bytes header rows es fault.Header is first s = absurd s.refuses
after_header bytes header rows es fault.Device is first s = refused_behind header rows (rows_of bytes) es fault.Device is first s
after_header bytes header rows es fault.OutOfMemory is first s = refused_behind header rows (rows_of bytes) es fault.OutOfMemory is first s
after_header bytes header rows es fault.Failed is first s = refused_behind header rows (rows_of bytes) es fault.Failed is first s
after_header bytes header rows es fault.TooMany is first s = refused_behind header rows (rows_of bytes) es fault.TooMany is first s
after_header bytes header rows es (fault.Row i) is first s = refused_behind header rows (rows_of bytes) es (fault.Row i) is first s
after_header bytes header rows es (fault.TimeBack i) is first s =
    refused_behind header rows (rows_of bytes) es (fault.TimeBack i) is first s

no_header : (bytes : List ℕ) (rows : List Row) (es : List Entry) (f : ReadFault)
    → rows_of bytes ≡ rows → HasNoHeader rows → stops fault.Header ≡ stops_after es f → IsFaultyText bytes es f
no_header bytes rows es f is none e =
    let same : fault.Header ≡ f = cc (ap (λ (t : Recording). t.fault) e) in
    let There : ReadFault → Type 0 = λ g. IsFaultyText bytes es g in
    subst There same (sym (ap (λ (t : Recording). t.entries) e), rw is none)

stands-faulty : (bytes : List ℕ) (es : List Entry) (f : ReadFault)
    → all_rows_stand_for most_entries (rows_of bytes) ≡ stops_after es f → IsFaultyText bytes es f
stands-faulty bytes es f e = from_rows (rows_of bytes) refl e where
  from_rows : (rows : List Row) → rows_of bytes ≡ rows → all_rows_stand_for most_entries rows ≡ stops_after es f → IsFaultyText bytes es f
  from_rows [] is e = no_header bytes [] es f is tt e
  from_rows (r ∷ rows) is e = elim (cases_Bool (is_header r)) [
    | inl first ↦ after_header bytes r rows es f is first (rows-stop 0 0 (map entry_in rows) es f (omega arith) (rw first at e))
    | inr other ↦ no_header bytes (r ∷ rows) es f is other (rw other at e)
  ]

pub fault-faulty_text : (bytes : List ℕ) (es : List Entry) (f : ReadFault)
    → is_binary bytes ≡ false → stands_for bytes ≡ stops_after es f → IsFaultyText bytes es f
fault-faulty_text bytes es f text e = stands-faulty bytes es f (sym (text-stands bytes text) ∙ e)

pub fault-faulty_binary : (bytes : List ℕ) (es : List Entry) (f : ReadFault)
    → is_binary bytes ≡ true → stands_for bytes ≡ stops_after es f → IsFaultyBinary bytes es f
fault-faulty_binary bytes es f binary e = record {
  following = drop 8 bytes;
  all = magic-split bytes binary;
  among =
      refused_among (piece_entries (drop 8 bytes)) es f
      (rows-stop 0 0 (piece_entries (drop 8 bytes)) es f (omega arith) (sym (binary-stands bytes binary) ∙ e));
}
