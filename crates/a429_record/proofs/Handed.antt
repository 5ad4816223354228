-- What a reader has handed out, step by step.
use Rattle.std.proofs.Common.{◌≡◌, ◌==◌, ◌∙◌, ◌+◌, ◌⊎◌, ℕ, List, [], ◌∷◌, ◌++◌, map, true, Option, Some, None, Result, Ok, Err, IfOk, IfSome, inl, inr, nat_lt, refl, sym, ap, subst, append_assoc, arith}
use Rattle.std.specs.List.{flat_map}
use Rattle.std.proofs.lemmas.Bool.{cases_Bool}
use Rattle.std.proofs.lemmas.Grind.{flat_map-append}
use Rattle.std.proofs.lemmas.List.{append-nil, map-append}
use Rattle.std.specs.Io.KnownBytes.{Consumes, Keeps, prepend_known}
use Rattle.std.proofs.KnownBytes.{Consumes-kept, prepend_known-nil}
use Rattle.a429_record.specs.declared.entry.Entry.{Entry}
use Rattle.a429_record.specs.declared.fault.ReadFault.{ReadFault}
use Rattle.a429_record.specs.Ends.{HasNoEnd}
use Rattle.a429_record.specs.Row.{Row, is_header, entry_in, line_rows}
use Rattle.a429_record.specs.Recording.{Recording, recording_lines, with_first, rows_of, row_stands_for, entries_stand_for, IsWithin}
use Rattle.a429_record.specs.Handed.{OfTaken, onto_first, ended_lines, ended_rows, AreSound, Loses, HasNoTextFault, HasNoRow, IsLineHanded, IsEnded, AreLines, AreHeader, AreEntryOf, AreGiven}
use Rattle.a429_record.proofs.LinesFacts.{lines_of-ended, lines_of-last, given}
use Rattle.a429_record.proofs.WholeRecordings.{recordable-whole}

-- ---- known bytes

pub consumed : (P : List ℕ → List ℕ → Type 0) (a b : Option (List ℕ)) (bs : List ℕ) → Consumes a b bs → ((rest : List ℕ) → P bs rest)
    → Loses P a b
consumed P None b bs p h = tt
consumed P (Some xs) None bs p h = absurd p
consumed P (Some xs) (Some ys) bs p h = (bs, p, h ys)

pub nothing_lost : (P : List ℕ → List ℕ → Type 0) (a : Option (List ℕ)) → ((rest : List ℕ) → P [] rest) → Loses P a a
nothing_lost P None h = tt
nothing_lost P (Some xs) h = ([], refl, h xs)

-- one front is lost, and then another
pub lost_both : (P Q R : List ℕ → List ℕ → Type 0) (a b c : Option (List ℕ)) → Loses P a b → Loses Q b c
    → ((t u rest : List ℕ) → P t (u ++ rest) → Q u rest → R (t ++ u) rest) → Loses R a c
lost_both P Q R None b c p q h = tt
lost_both P Q R (Some xs) None c p q h = absurd p
lost_both P Q R (Some xs) (Some ys) None p q h = absurd q
lost_both P Q R (Some xs) (Some ys) (Some zs) p q h =
    (p.0 ++ q.0, p.1 ∙ ap (λ (l : List ℕ). p.0 ++ l) q.1 ∙ sym (append_assoc p.0 q.0 zs), h p.0 q.0 zs (subst (P p.0) q.1 p.2) q.2)

-- the same front is lost
pub lost_so : (P Q : List ℕ → List ℕ → Type 0) (a b : Option (List ℕ)) → Loses P a b → ((t rest : List ℕ) → P t rest → Q t rest)
    → Loses Q a b
lost_so P Q None b p h = tt
lost_so P Q (Some xs) None p h = absurd p
lost_so P Q (Some xs) (Some ys) p h = (p.0, p.1, h p.0 ys p.2)

-- ---- lines with their line feeds

-- the lines up to a line feed stand before those behind it
record Cut (front : List ℕ) : Type 0 where
  line : List ℕ
  more : List (List ℕ)
  all : (t : List ℕ) → recording_lines (front ++ (10 ∷ t)) ≡ line ∷ (more ++ recording_lines t)
  ended : (t : List ℕ) → ended_lines (front ++ (10 ∷ t)) ≡ line ∷ (more ++ ended_lines t)

cut : (front : List ℕ) → Cut front
cut [] = record { line = []; more = []; all = λ t. refl; ended = λ t. refl }
cut (b ∷ bs) =
    let c = cut bs in
    elim (cases_Bool (b == 10)) [
      | inl is ↦ record {
        line = [];
        more = c.line ∷ c.more;
        all = λ t. rw is (ap (λ (l : List (List ℕ)). [] ∷ l) (c.all t));
        ended = λ t. rw is (ap (λ (l : List (List ℕ)). [] ∷ l) (c.ended t));
      }
      | inr other ↦ record {
        line = b ∷ c.line;
        more = c.more;
        all = λ t. rw other (ap (with_first b) (c.all t));
        ended = λ t. rw other (ap (onto_first b) (c.ended t));
      }
    ]

-- a text that ends in a line feed, and a text behind it
lines-behind : (front t : List ℕ) → recording_lines ((front ++ (10 ∷ [])) ++ t) ≡ recording_lines (front ++ (10 ∷ [])) ++ recording_lines t
lines-behind front t =
    let c = cut front in
    let one = c.all [] ∙ ap (λ (l : List (List ℕ)). c.line ∷ l) (append-nil c.more) in
    ap recording_lines (append_assoc front (10 ∷ []) t) ∙ c.all t ∙ ap (λ (l : List (List ℕ)). l ++ recording_lines t) (sym one)

ended-behind : (front t : List ℕ) → ended_lines ((front ++ (10 ∷ [])) ++ t) ≡ recording_lines (front ++ (10 ∷ [])) ++ ended_lines t
ended-behind front t =
    let c = cut front in
    let one = c.all [] ∙ ap (λ (l : List (List ℕ)). c.line ∷ l) (append-nil c.more) in
    ap ended_lines (append_assoc front (10 ∷ []) t) ∙ c.ended t ∙ ap (λ (l : List (List ℕ)). l ++ ended_lines t) (sym one)

rows-behind : (taken t : List ℕ) → IsEnded taken → rows_of (taken ++ t) ≡ rows_of taken ++ rows_of t
rows-behind taken t (inl none) = rw none refl
rows-behind taken t (inr (front, e)) =
    rw e
    (ap (flat_map line_rows) (lines-behind front t) ∙ flat_map-append line_rows (recording_lines (front ++ (10 ∷ []))) (recording_lines t))

ended_rows-behind : (taken t : List ℕ) → IsEnded taken → ended_rows (taken ++ t) ≡ rows_of taken ++ ended_rows t
ended_rows-behind taken t (inl none) = rw none refl
ended_rows-behind taken t (inr (front, e)) =
    rw e (ap (flat_map line_rows) (ended-behind front t) ∙ flat_map-append line_rows (recording_lines (front ++ (10 ∷ []))) (ended_lines t))

IsEnded-append : (xs ys : List ℕ) → IsEnded xs → IsEnded ys → IsEnded (xs ++ ys)
IsEnded-append xs ys p (inl none) = rw (none, append-nil) p
IsEnded-append xs ys p (inr (front, e)) = inr (xs ++ front, ap (λ (l : List ℕ). xs ++ l) e ∙ sym (append_assoc xs front (10 ∷ [])))

-- the lines with their line feeds come first
lines-ended : (xs : List ℕ) → (last : List (List ℕ)) × (recording_lines xs ≡ ended_lines xs ++ last)
lines-ended [] = ([], refl)
lines-ended (b ∷ bs) =
    let (last, e) = lines-ended bs in
    elim (cases_Bool (b == 10)) [
      | inl is ↦ (last, rw is (ap (λ (l : List (List ℕ)). [] ∷ l) e))
      | inr other ↦ let more = first_of_all (ended_lines bs) last in (more.0, rw other (ap (with_first b) e ∙ more.1))
    ]
  where
    first_of_all : (ls last : List (List ℕ)) → (more : List (List ℕ)) × (with_first b (ls ++ last) ≡ onto_first b ls ++ more)
    first_of_all [] last = (with_first b last, refl)
    first_of_all (l ∷ ls) last = (last, refl)

rows-ended : (xs : List ℕ) → (more : List Row) × (rows_of xs ≡ ended_rows xs ++ more)
rows-ended xs =
    let (last, e) = lines-ended xs in (flat_map line_rows last, ap (flat_map line_rows) e ∙ flat_map-append line_rows (ended_lines xs) last)

-- a front of a line has none
open-ended : (part : List ℕ) → HasNoEnd part → ended_lines part ≡ []
open-ended [] h = refl
open-ended (b ∷ bs) h = rw h.0 (ap (onto_first b) (open-ended bs h.1))

pub open_no_row : (taken rest : List ℕ) → HasNoEnd taken → HasNoRow taken
open_no_row taken rest h = ap (flat_map line_rows) (open-ended taken h)

-- ---- lines one behind the other

no_text : (u r : List ℕ) → u ++ r ≡ [] → (u ≡ []) × (r ≡ [])
no_text [] r e = (refl, e)
no_text (x ∷ u) r e = cc e

pub lines_both : (P Q R : List Row → Type 0) (t u rest : List ℕ) → AreLines P t (u ++ rest) → AreLines Q u rest
    → ((x y : List Row) → P x → Q y → R (x ++ y)) → AreLines R (t ++ u) rest
lines_both P Q R t u rest (inl end, p) (more, q) h =
    (both more, subst R (sym (rows-behind t u end)) (h (rows_of t) (rows_of u) p q)) where
      both : IsEnded u ⊎ (rest ≡ []) → IsEnded (t ++ u) ⊎ (rest ≡ [])
      both (inl m) = inl (IsEnded-append t u end m)
      both (inr m) = inr m
lines_both P Q R t u rest (inr end, p) (more, q) h =
    let (none, last) = no_text u rest end in
    let joined : R (rows_of t ++ []) = rw none at (h (rows_of t) (rows_of u) p q) in
    (inr last, rw (none, append-nil) (rw append-nil at joined))

-- and then a text without a row
pub lines_no_row : (P : List Row → Type 0) (t u rest : List ℕ) → AreLines P t (u ++ rest) → HasNoRow u
    → (more : List Row) × P (ended_rows (t ++ u) ++ more)
lines_no_row P t u rest (inl end, p) none =
    let same : ended_rows (t ++ u) ++ [] ≡ rows_of t =
    append-nil (ended_rows (t ++ u)) ∙ ended_rows-behind t u end ∙ ap (λ (l : List Row). rows_of t ++ l) none ∙ append-nil (rows_of t) in
    ([], subst P (sym same) p)
lines_no_row P t u rest (inr end, p) none =
    let (empty, last) = no_text u rest end in
    let (more, e) = rows-ended t in
    (more, rw (empty, append-nil) (subst P e p))

no_rows : (xs ys : List Row) → xs ++ ys ≡ [] → xs ≡ []
no_rows [] ys e = refl
no_rows (x ∷ xs) ys e = cc e

pub still_no_row : (t u rest : List ℕ) → AreLines (λ rows. rows ≡ []) t (u ++ rest) → HasNoRow u → HasNoRow (t ++ u)
still_no_row t u rest p none = let (more, e) = lines_no_row (λ rows. rows ≡ []) t u rest p none in no_rows (ended_rows (t ++ u)) more e

-- one line
pub line_lines : (line taken rest : List ℕ) → IsLineHanded line taken rest → AreLines (λ rows. rows ≡ line_rows line) taken rest
line_lines line taken rest (one, inl e) =
    (inl (inr (line, e)), ap rows_of e ∙ ap (flat_map line_rows) (lines_of-ended line [] one) ∙ append-nil (line_rows line))
line_lines [] taken rest (one, inr (some, e, last)) = absurd (omega arith)
line_lines (x ∷ xs) taken rest (one, inr (some, e, last)) =
    (inr last, ap rows_of e ∙ ap (flat_map line_rows) (lines_of-last x xs one) ∙ append-nil (line_rows (x ∷ xs)))

-- ---- no fault

-- a front of rows that make no fault makes none
row-front : (n last : ℕ) (o : Option Entry) (long short : Entry → Recording)
    → ((x : Entry) → (long x).fault ≡ None → (short x).fault ≡ None)
    → (row_stands_for n last o long).fault ≡ None → (row_stands_for n last o short).fault ≡ None
row-front n last None long short h e = e
row-front n last (Some x) long short h e = elim (cases_Bool (nat_lt x.time last)) [
  | inl back ↦ rw back (rw back at e)
  | inr kept ↦ rw kept (h x (rw kept at e))
]

entries-front : (most n last : ℕ) (rows more : List (Option Entry))
    → (entries_stand_for most n last (rows ++ more)).fault ≡ None → (entries_stand_for most n last rows).fault ≡ None
entries-front most n last [] more e = refl
entries-front most n last (r ∷ rows) more e = elim (cases_Bool (n == most)) [
  | inl full ↦ rw full (rw full at e)
  | inr room ↦
      rw room
      (row-front n last r (λ x. entries_stand_for most (n + 1) x.time (rows ++ more)) (λ x. entries_stand_for most (n + 1) x.time rows)
      (λ x. entries-front most (n + 1) x.time rows more) (rw room at e))
]

given-sound : (most : ℕ) (es : List Entry) (rows more : List Row) → IsWithin most es → AreGiven es (rows ++ more) → AreSound most rows
given-sound most es [] more h g = tt
given-sound most es (r ∷ rows) more h g =
    let here : r ≡ g.header = cc g.all in
    let rest : rows ++ more ≡ g.more = cc g.all in
    let first : is_header r ≡ true = rw here g.first in
    let all : map entry_in rows ++ map entry_in more ≡ map entry_in g.more = sym (map-append entry_in rows more) ∙ ap (map entry_in) rest in
    let holds = ap (entries_stand_for most 0 0) all ∙ recordable-whole most (map entry_in g.more) es g.entries h in
    rw first (entries-front most 0 0 (map entry_in rows) (map entry_in more) (ap (λ (t : Recording). t.fault) holds))

-- entries were given, and then there was no row
pub sound : (most : ℕ) (es : List Entry) (t u rest : List ℕ)
    → IsWithin most es → AreLines (AreGiven es) t (u ++ rest) → HasNoRow u → HasNoTextFault most (t ++ u)
sound most es t u rest h p none =
    let (more, g) = lines_no_row (AreGiven es) t u rest p none in given-sound most es (ended_rows (t ++ u)) more h g

-- a row more
pub given_row : (es : List Entry) (e : Entry) (x y : List Row)
    → AreGiven es x → map entry_in y ≡ Some e ∷ [] → AreGiven (es ++ (e ∷ [])) (x ++ y)
given_row es e x y g h = record {
  header = g.header;
  more = g.more ++ y;
  all = ap (λ (l : List Row). l ++ y) g.all;
  first = g.first;
  entries = map-append entry_in g.more y ∙ ap (λ (l : List (Option Entry)). l ++ map entry_in y) g.entries
      ∙ ap (λ (l : List (Option Entry)). map Some es ++ l) h ∙ sym (map-append Some es (e ∷ []));
}

-- ---- the steps

-- the reader fails behind bytes that are so
pub front_lost : (P : List ℕ → List ℕ → Type 0) (a k k' : Option (List ℕ)) (ahead part line : List ℕ)
    → Consumes a (prepend_known ahead k) line → ahead ≡ part ++ []
    → ((rest : List ℕ) → P (line ++ part) rest) → Keeps k k' → Loses P a k'
front_lost P a k k' ahead part line gone cut so kept =
    let all : Consumes a k (line ++ part) = rw prepend_known-nil at (given a k ahead part [] line gone cut) in
    consumed P a k' (line ++ part) (Consumes-kept a k k' (line ++ part) all kept) so

-- a line without a row is lost behind such lines
pub blank_lost : (a b c : Option (List ℕ)) (line : List ℕ) → Loses (AreLines (λ rows. rows ≡ [])) a b → Loses (IsLineHanded line) b c
    → line_rows line ≡ [] → Loses (AreLines (λ rows. rows ≡ [])) a c
blank_lost a b c line p q none = lost_both _ _ _ a b c p q (λ t u rest before after.
    lines_both (λ rows. rows ≡ []) (λ rows. rows ≡ line_rows line) (λ rows. rows ≡ []) t u rest before (line_lines line u rest after)
    (λ x y ex ey. rw (ex, ey) none))

-- a line with rows that are so is
pub line_lost : (R : List Row → Type 0) (a b c : Option (List ℕ)) (line : List ℕ) → Loses (AreLines (λ rows. rows ≡ [])) a b
    → Loses (IsLineHanded line) b c → R (line_rows line) → Loses (AreLines R) a c
line_lost R a b c line p q so = lost_both _ _ _ a b c p q (λ t u rest before after.
    lines_both (λ rows. rows ≡ []) (λ rows. rows ≡ line_rows line) R t u rest before (line_lines line u rest after)
    (λ x y ex ey. rw (ex, ey) so))

-- the reader fails behind such lines
pub failed_lost : (a b c : Option (List ℕ))
    → Loses (AreLines (λ rows. rows ≡ [])) a b → Loses (OfTaken HasNoEnd) b c → Loses (OfTaken HasNoRow) a c
failed_lost a b c p q = lost_both _ _ _ a b c p q (λ t u rest before after. still_no_row t u rest before (open_no_row u rest after))

pub no_lines : (a : Option (List ℕ)) → Loses (AreLines (λ rows. rows ≡ [])) a a
no_lines a = nothing_lost (AreLines (λ rows. rows ≡ [])) a (λ rest. (inl (inl refl), refl))

-- a row is taken for the next entry, or is none
pub taken_entry : (r : Result (Option Entry) ReadFault) (x : Entry) (a b : Option (List ℕ))
    → IfOk r (λ o. o ≡ Some x) → Loses (AreLines (AreEntryOf x)) a b
    → IfOk r (λ o. IfSome o (λ e. Loses (AreLines (AreEntryOf e)) a b))
taken_entry (Ok None) x a b is h = tt
taken_entry (Ok (Some e)) x a b is h =
    let same : x ≡ e = cc is in
    subst (λ (y : Entry). Loses (AreLines (AreEntryOf y)) a b) same h
taken_entry (Err f) x a b is h = tt

pub taken_none : (r : Result (Option Entry) ReadFault) (P : Entry → Type 0) → IfOk r (λ o. o ≡ None) → IfOk r (λ o. IfSome o P)
taken_none (Ok None) P is = tt
taken_none (Ok (Some e)) P is = cc is
taken_none (Err f) P is = tt

pub no_entry : (rows : List Row) → [] ≡ map entry_in rows → [] ≡ rows
no_entry [] e = refl
no_entry (r ∷ rows) e = cc e

-- ---- a whole reading

given_header : (a b : Option (List ℕ)) → Loses (AreLines AreHeader) a b → Loses (AreLines (AreGiven [])) a b
given_header a b h = lost_so (AreLines AreHeader) (AreLines (AreGiven [])) a b h
    (λ t rest l. (l.0, record { header = l.1.0; more = []; all = l.1.1; first = l.1.2; entries = refl }))

pub given_next : (es more : List Entry) (e : Entry) (a b c : Option (List ℕ))
    → more ≡ es ++ (e ∷ []) → Loses (AreLines (AreGiven es)) a b → Loses (AreLines (AreEntryOf e)) b c
    → Loses (AreLines (AreGiven more)) a c
given_next es more e a b c is p q =
    subst (λ (l : List Entry). Loses (AreLines (AreGiven l)) a c) (sym is) (lost_both _ _ _ a b c p q (λ t u rest before after.
    lines_both (AreGiven es) (AreEntryOf e) (AreGiven (es ++ (e ∷ []))) t u rest before after (given_row es e)))

-- the reader fails before an entry
pub failed_next : (most : ℕ) (es : List Entry) (a b c : Option (List ℕ))
    → IsWithin most es → Loses (AreLines (AreGiven es)) a b → Loses (OfTaken HasNoRow) b c → Loses (OfTaken (HasNoTextFault most)) a c
failed_next most es a b c h p q = lost_both _ _ _ a b c p q (λ t u rest before after. sound most es t u rest h before after)

-- ---- the header and the first entry

-- it fails behind the header
pub failed_first : (most : ℕ) (a b c : Option (List ℕ))
    → Loses (AreLines AreHeader) a b → Loses (OfTaken HasNoRow) b c → Loses (OfTaken (HasNoTextFault most)) a c
failed_first most a b c p q = failed_next most [] a b c (omega arith, tt) (given_header a b p) q

-- the header comes, and then an entry, where the answer is one
pub given_first : (r : Result (Option Entry) ReadFault) (a b c : Option (List ℕ))
    → Loses (AreLines AreHeader) a b → IfOk r (λ o. IfSome o (λ e. Loses (AreLines (AreEntryOf e)) b c))
    → IfOk r (λ o. IfSome o (λ e. Loses (AreLines (AreGiven (e ∷ []))) a c))
given_first (Ok None) a b c p h = tt
given_first (Ok (Some e)) a b c p h = given_next [] (e ∷ []) e a b c refl (given_header a b p) h
given_first (Err f) a b c p h = tt
