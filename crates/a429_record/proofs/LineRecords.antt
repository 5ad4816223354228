-- The records of a line, from one or two reads of it.
use Rattle.std.proofs.Common.{◌≡◌, ◌∙◌, ℕ, ◌<◌, ◌-◌, List, [], ◌∷◌, length, take, drop, Some, None, arith, add-one, sym, ap, Bor, refl, true, false}
use Rattle.std.proofs.lemmas.List.{take_rest}
use Rattle.csv.specs.Machine.{Read, next_record}
use Rattle.csv.specs.Reading.{default_config, records, records_from, Reached, Ready, ReadRecord, source_of, strip_bom, reader_trim}
use Rattle.csv.specs.declared.reader.Reader.{Reader}
use Rattle.csv.specs.declared.reader.Trim.TheVariants as trim
use Rattle.csv.proofs.ReadFacts.{rows-more, rows-end}
use Rattle.csv.specs.Records.{field_at}
use Rattle.csv.proofs.RecordFacts.{field-there}
use Rattle.csv.specs.declared.parser.State.{State}
use Rattle.csv.specs.declared.parser.State.TheVariants as st
use Rattle.a429_record.specs.declared.scan.RecordEnd.{RecordEnd}
use Rattle.a429_record.specs.Row.{rows_in}
use Rattle.a429_record.specs.Scan.{ScansTo, state_of}

-- ---- the fields of a record

-- three fields, read one by one
pub three : (fs : List (List ℕ)) (a b c : List ℕ) → length fs ≡ 3 → Some a ≡ field_at fs 0 → Some b ≡ field_at fs 1 → Some c ≡ field_at fs 2
    → fs ≡ a ∷ b ∷ c ∷ []
unfolding field_at
three [] a b c n ea eb ec = cc ea
three (x ∷ []) a b c n ea eb ec = cc eb
three (x ∷ y ∷ []) a b c n ea eb ec = cc ec
three (x ∷ y ∷ z ∷ []) a b c n ea eb ec = cc (ea, eb, ec)
three (x ∷ y ∷ z ∷ w ∷ fs) a b c n ea eb ec = absurd (omega arith)

-- a record with three fields has each of them
pub missing : (fs : List (List ℕ)) (i : ℕ) → length fs ≡ 3 → i < 3 → None ≡ field_at fs i → ⊥
missing fs i n h e = field-there fs i (omega arith) (sym e)

-- ---- the records of a line

pub records-none : (xs : List ℕ) → next_record default_config st.StartRecord [] [] xs ≡ None → records default_config xs ≡ []
unfolding records_from
records-none xs e = rw (add-one, e)

pub records-one : (xs : List ℕ) (p : Read) → next_record default_config st.StartRecord [] [] xs ≡ Some p
    → next_record default_config p.1 [] [] p.2 ≡ None → records default_config xs ≡ p.0 ∷ []
unfolding records_from next_record
records-one [] p e n = cc e
records-one (x ∷ xs) p e n = rw (add-one, e, n)

records-more : (xs : List ℕ) (p q : Read) → next_record default_config st.StartRecord [] [] xs ≡ Some p
    → next_record default_config p.1 [] [] p.2 ≡ Some q → (more : List (List (List ℕ))) × (records default_config xs ≡ p.0 ∷ q.0 ∷ more)
unfolding records_from next_record
records-more [] p q e n = cc e
records-more (x ∷ xs) p q e n = (records_from default_config (length xs) q.1 q.2, rw (add-one, e, n))

-- the same, of what a reader reached
reached-one : (xs y : List ℕ) (s : State) (f : List (List ℕ)) → Reached default_config st.StartRecord xs (f ∷ []) s y
    → next_record default_config s [] [] y ≡ None → records default_config xs ≡ f ∷ []
unfolding Reached
reached-one xs y s f h n = records-one xs h.0 h.1 (rw (h.3.0, h.3.1) n) ∙ ap (λ (g : List (List ℕ)). g ∷ []) (sym h.2)

reached-two : (xs y : List ℕ) (s : State) (f g : List (List ℕ)) → Reached default_config st.StartRecord xs (f ∷ g ∷ []) s y
    → (more : List (List (List ℕ))) × (records default_config xs ≡ f ∷ g ∷ more)
unfolding Reached
reached-two xs y s f g h =
    let m = records-more xs h.0 h.3.0 h.1 h.3.1 in
    (m.0, rw (h.2, h.3.2) m.1)

-- a reader of a line, as it is made
pub record Begun (a : Reader (Bor (List ℕ))) (line : List ℕ) : Type 0 where
  pub trim : reader_trim a ≡ trim.None
  pub config : a.config ≡ default_config
  pub ready : Ready a
  pub state : a.state ≡ st.StartRecord
  pub source : source_of (λ s. Some s.now) a ≡ Some (strip_bom line)

pub read_nothing : (a b : Reader (Bor (List ℕ))) (line : List ℕ) (f : List (List ℕ)) → Begun a line
    → ReadRecord (λ s. Some s.now) a b false f → records default_config (strip_bom line) ≡ []
read_nothing a b line f g r =
    records-none _ (rw g.state at (rows-end (λ (s : Bor (List ℕ)). Some s.now) a b f default_config (strip_bom line) g.config g.source r))

first : (a b : Reader (Bor (List ℕ))) (line : List ℕ) (f : List (List ℕ)) → Begun a line → ReadRecord (λ s. Some s.now) a b true f
    → (z : List ℕ) × (source_of (λ s. Some s.now) b ≡ Some z) × Reached default_config st.StartRecord (strip_bom line) (f ∷ []) b.state z
unfolding Reached
first a b line f g r =
    rows-more (λ (s : Bor (List ℕ)). Some s.now) a b f default_config st.StartRecord (strip_bom line) (strip_bom line) [] g.config g.source
    (sym g.state, refl) r

pub read_one : (a b d : Reader (Bor (List ℕ))) (line : List ℕ) (f h : List (List ℕ)) → Begun a line
    → ReadRecord (λ s. Some s.now) a b true f → ReadRecord (λ s. Some s.now) b d false h → records default_config (strip_bom line) ≡ f ∷ []
read_one a b d line f h g r t =
    let one = first a b line f g r in
    reached-one _ _ _ _ one.2 (rows-end (λ (s : Bor (List ℕ)). Some s.now) b d h default_config one.0 (r.2 ∙ g.config) one.1 t)

pub read_two : (a b d : Reader (Bor (List ℕ))) (line : List ℕ) (f h : List (List ℕ)) → Begun a line
    → ReadRecord (λ s. Some s.now) a b true f → ReadRecord (λ s. Some s.now) b d true h
    → (more : List (List (List ℕ))) × (records default_config (strip_bom line) ≡ f ∷ h ∷ more)
read_two a b d line f h g r t =
    let one = first a b line f g r in
    let two =
    rows-more (λ (s : Bor (List ℕ)). Some s.now) b d h default_config st.StartRecord (strip_bom line) one.0 (f ∷ [])
    (r.2 ∙ g.config) one.1 one.2 t in
    reached-two _ _ _ _ _ two.2

-- ---- the rows of a line that was scanned

pub no_row : (text : List ℕ) (fields : List (List ℕ)) → ScansTo st.StartRecord text fields None → [] ≡ rows_in (records default_config text)
no_row text fields h = rw (records-none text h) refl

pub one_row : (text : List ℕ) (fields others : List (List ℕ)) (end : RecordEnd) → ScansTo st.StartRecord text fields (Some end)
    → ScansTo (state_of end.place) (take (length text - end.len) (drop end.len text)) others None
    → Some fields ∷ [] ≡ rows_in (records default_config text)
one_row text fields others end h t =
    rw (records-one text (fields, state_of end.place, drop end.len text) h.1 (rw (take_rest text end.len) at t)) refl

pub several_rows : (text : List ℕ) (fields others : List (List ℕ)) (end stop : RecordEnd) → ScansTo st.StartRecord text fields (Some end)
    → ScansTo (state_of end.place) (take (length text - end.len) (drop end.len text)) others (Some stop)
    → None ∷ [] ≡ rows_in (records default_config text)
several_rows text fields others end stop h t =
    let rest = drop end.len text in
    let next = rw (take_rest text end.len) at t in
    let two = records-more text (fields, state_of end.place, rest) (others, state_of stop.place, drop stop.len rest) h.1 next.1 in
    rw two.1 refl
