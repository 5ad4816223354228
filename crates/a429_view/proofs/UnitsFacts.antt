-- The rows that are put as steps are told are those of the units of a run.
use Rattle.std.proofs.Common.{◌≡◌, ◌+◌, ◌∙◌, ◌++◌, ◌∷◌, ℕ, List, [], Bool, true, false, cond, ◌||◌, Option, Some, None, slice_get, refl, sym, ap, subst, append_assoc, arith}
use Rattle.std.specs.List.{FoldsTo, fold, list_any, filter_map, cons_option, flat_map, last_or}
use Rattle.std.specs.Option.{option_map}
use Rattle.std.specs.Io.KnownBytes.{Appends}
use Rattle.std.proofs.KnownBytes.{Appends-nil, Appends-trans}
use Rattle.std.proofs.lemmas.List.{append-nil}
use Rattle.std.proofs.Math.Bool.{or_assoc, or-false}
use Rattle.a429_word.specs.Page.{paged, PutsOn}
use Rattle.a429_profile.specs.declared.codes.Codes.{Codes}
use Rattle.a429_profile.specs.Profile.{Contents}
use Rattle.a429_ldu.specs.Ldu.{LduValue}
use Rattle.a429_link.specs.declared.number.UnitNumber.{UnitNumber}
use Rattle.a429_cert.specs.Report.{Report, Loads, Makes}
use Rattle.a429_view.specs.declared.units.span.Moment.{Moment}
use Rattle.a429_view.specs.declared.units.row.UnitRow.{UnitRow}
use Rattle.a429_view.specs.declared.units.rows.UnitRows.{UnitRows}
use Rattle.a429_view.specs.Units.{LoadedUnit, before_load, loaded_units, ended_units, is_request, is_lost, is_unanswered, is_unheard, is_nak, is_time_out, is_ack, moment_of, row_of, unit_line, columns_text, units_text, ended_text}
use Rattle.a429_view.specs.UnitSteps.{more, either, with_step, begun, line_before, HearsRows}

-- ---- steps, one after the other

abbrev count_on : (Report → Bool) → List Report → ℕ → ℕ
count_on p [] n = n
count_on p (t ∷ steps) n = count_on p steps (more (p t) n)

abbrev first_on : List Report → Option Moment → Option Moment
first_on [] o = o
first_on (t ∷ steps) o = first_on steps (either o (moment_of t))

abbrev last_on : List Report → Option Moment → Option Moment
last_on [] o = o
last_on (t ∷ steps) o = last_on steps (either (moment_of t) o)

abbrev any_on : (Report → Bool) → List Report → Bool → Bool
any_on p [] b = b
any_on p (t ∷ steps) b = any_on p steps (b || p t)

abbrev with_steps : Codes → List Report → UnitRow → UnitRow
with_steps c [] r = r
with_steps c (t ∷ steps) r = with_steps c steps (with_step c t r)

-- ---- each is what it stands for

more-is : (b : Bool) (n : ℕ) → more b n ≡ n + cond b 1 0
more-is true n = refl
more-is false n = omega arith

count_on-is : (p : Report → Bool) (steps : List Report) (n : ℕ) → count_on p steps n ≡ fold (λ a t. a + cond (p t) 1 0) n steps
count_on-is p [] n = refl
count_on-is p (t ∷ steps) n = count_on-is p steps (more (p t) n) ∙ ap (λ k. fold (λ a t. a + cond (p t) 1 0) k steps) (more-is (p t) n)

first_some : (steps : List Report) (m : Moment) → first_on steps (Some m) ≡ Some m
first_some [] m = refl
first_some (t ∷ steps) m = first_some steps m

first_none : (steps : List Report) → first_on steps None ≡ slice_get (filter_map moment_of steps) 0
first_none [] = refl
first_none (t ∷ steps) = by (moment_of t) (first_none steps)
  where
    by : (o : Option Moment) → first_on steps None ≡ slice_get (filter_map moment_of steps) 0
        → first_on steps (either None o) ≡ slice_get (cons_option o (filter_map moment_of steps)) 0
    by None h = h
    by (Some m) h = first_some steps m

last_on-is : (steps : List Report) (o : Option Moment) → last_on steps o ≡ last_or o (filter_map moment_of steps)
last_on-is [] o = refl
last_on-is (t ∷ steps) o = by (moment_of t) (λ m. last_on-is steps m)
  where
    by : (m : Option Moment) → ((n : Option Moment) → last_on steps n ≡ last_or n (filter_map moment_of steps))
        → last_on steps (either m o) ≡ last_or o (cons_option m (filter_map moment_of steps))
    by None h = h o
    by (Some m) h = h (Some m)

any_on-is : (p : Report → Bool) (steps : List Report) (b : Bool) → any_on p steps b ≡ (b || list_any p steps)
any_on-is p [] b = sym (or-false b)
any_on-is p (t ∷ steps) b = any_on-is p steps (b || p t) ∙ or_assoc b (p t) (list_any p steps)

-- ---- the row of a unit

abbrev grown : Codes → List Report → UnitRow → UnitRow
grown c steps r = record {
  number = r.number;
  size = r.size;
  counts = record {
    requests = count_on (is_request c) steps r.counts.requests;
    lost = count_on is_lost steps r.counts.lost;
    unanswered = count_on is_unanswered steps r.counts.unanswered;
    unheard = count_on is_unheard steps r.counts.unheard;
    naks = count_on (is_nak c) steps r.counts.naks;
    timeouts = count_on is_time_out steps r.counts.timeouts;
  };
  span = record {
    first = first_on steps r.span.first;
    last = last_on steps r.span.last;
    crossed = any_on (is_ack c) steps r.span.crossed;
  };
}

with_steps-is : (c : Codes) (steps : List Report) (r : UnitRow) → with_steps c steps r ≡ grown c steps r
with_steps-is c [] r = refl
with_steps-is c (t ∷ steps) r = with_steps-is c steps (with_step c t r)

row-is : (c : Codes) (number : UnitNumber) (unit : LduValue) (steps : List Report)
    → with_steps c steps (begun c number unit) ≡ row_of c (record { number = number; unit = unit; steps = steps })
row-is c number unit steps = with_steps-is c steps (begun c number unit) ∙ simp (count_on-is, first_none, last_on-is, any_on-is)

-- ---- the text

-- what has gone out, and the row of the unit that was loaded last
abbrev gone : Codes → Option UnitRow → List Report → List ℕ
gone c row [] = []
gone c row (Loads number unit ∷ reports) = line_before row ++ gone c (Some (begun c number unit)) reports
gone c row (Makes act entry ∷ reports) = gone c (option_map (with_step c (Makes act entry)) row) reports

abbrev kept : Codes → Option UnitRow → List Report → Option UnitRow
kept c row [] = row
kept c row (Loads number unit ∷ reports) = kept c (Some (begun c number unit)) reports
kept c row (Makes act entry ∷ reports) = kept c (option_map (with_step c (Makes act entry)) row) reports

abbrev rows_text : Codes → List Report → List ℕ
rows_text c reports = flat_map (λ u. unit_line (row_of c u)) (loaded_units reports)

-- the line of the unit that was loaded last, and those of the units behind it
abbrev all_text : Codes → Option UnitRow → List Report → List ℕ
all_text c None reports = columns_text ++ rows_text c reports
all_text c (Some r) reports = unit_line (with_steps c (before_load reports) r) ++ rows_text c reports

begun_text : (c : Codes) (number : UnitNumber) (unit : LduValue) (reports : List Report)
    → all_text c (Some (begun c number unit)) reports ≡ rows_text c (Loads number unit ∷ reports)
begun_text c number unit reports = ap (λ r. unit_line r ++ rows_text c reports) (row-is c number unit (before_load reports))

loaded_text : (c : Codes) (row : Option UnitRow) (number : UnitNumber) (unit : LduValue) (reports : List Report)
    → line_before row ++ rows_text c (Loads number unit ∷ reports) ≡ all_text c row (Loads number unit ∷ reports)
loaded_text c None number unit reports = refl
loaded_text c (Some r) number unit reports = refl

gone_all : (c : Codes) (row : Option UnitRow) (reports : List Report)
    → gone c row reports ++ line_before (kept c row reports) ≡ all_text c row reports
gone_all c None [] = sym (append-nil columns_text)
gone_all c (Some r) [] = sym (append-nil (unit_line r))
gone_all c row (Loads number unit ∷ reports) =
    append_assoc (line_before row) (gone c (Some (begun c number unit)) reports) (line_before (kept c (Some (begun c number unit)) reports))
    ∙ ap (λ (t : List ℕ). line_before row ++ t) (gone_all c (Some (begun c number unit)) reports ∙ begun_text c number unit reports)
    ∙ loaded_text c row number unit reports
gone_all c None (Makes act entry ∷ reports) = gone_all c None reports
gone_all c (Some r) (Makes act entry ∷ reports) = gone_all c (Some (with_step c (Makes act entry) r)) reports

-- ---- what has gone out are the rows of the units that have ended

-- the line of a unit, where another is behind it, and of those behind it the lines of all but the last
abbrev ended_after : Codes → UnitRow → List LoadedUnit → List ℕ
ended_after c r [] = []
ended_after c r (u ∷ units) = unit_line r ++ flat_map (λ v. unit_line (row_of c v)) (ended_units (u ∷ units))

ended_after-is : (c : Codes) (u : LoadedUnit) (units : List LoadedUnit)
    → ended_after c (row_of c u) units ≡ flat_map (λ v. unit_line (row_of c v)) (ended_units (u ∷ units))
ended_after-is c u [] = refl
ended_after-is c u (v ∷ units) = refl

-- the unit that was loaded last, with what is told of it
begun_after : (c : Codes) (number : UnitNumber) (unit : LduValue) (reports : List Report) (text : List ℕ)
    → text ≡ ended_after c (with_steps c (before_load reports) (begun c number unit)) (loaded_units reports)
    → text ≡ flat_map (λ v. unit_line (row_of c v)) (ended_units (loaded_units (Loads number unit ∷ reports)))
begun_after c number unit reports text h =
    h ∙ ap (λ (r : UnitRow). ended_after c r (loaded_units reports)) (row-is c number unit (before_load reports))
    ∙ ended_after-is c (record { number = number; unit = unit; steps = before_load reports }) (loaded_units reports)

gone_after : (c : Codes) (r : UnitRow) (reports : List Report)
    → gone c (Some r) reports ≡ ended_after c (with_steps c (before_load reports) r) (loaded_units reports)
gone_after c r [] = refl
gone_after c r (Loads number unit ∷ reports) =
    ap (λ (t : List ℕ). unit_line r ++ t)
    (begun_after c number unit reports (gone c (Some (begun c number unit)) reports) (gone_after c (begun c number unit) reports))
gone_after c r (Makes act entry ∷ reports) = gone_after c (with_step c (Makes act entry) r) reports

gone_ended : (c : Codes) (reports : List Report) → gone c None reports ≡ ended_text c reports
gone_ended c [] = refl
gone_ended c (Loads number unit ∷ reports) =
    ap (λ (t : List ℕ). columns_text ++ t)
    (begun_after c number unit reports (gone c (Some (begun c number unit)) reports) (gone_after c (begun c number unit) reports))
gone_ended c (Makes act entry ∷ reports) = gone_ended c reports

-- ---- what rows that are told of a run put

module _ {W : Type 0} (contents : W → Option (List ℕ)) (p : Contents) where
  -- a writer and its page have gained what has gone out, and the row is that of the unit that was loaded last
  pub record HasPut (old new : UnitRows W) (reports : List Report) : Type 0 where
    pub puts : PutsOn contents old.out old.page new.out new.page (gone p.codes old.row reports)
    pub row : new.row ≡ kept p.codes old.row reports

  heard_rows : (old new : UnitRows W) (reports : List Report) → FoldsTo (HearsRows contents p) old reports new → HasPut old new reports
  heard_rows old new [] h =
      subst (λ (n : UnitRows W). HasPut old n []) h (record { puts = Appends-nil (paged contents old.out old.page); row = refl })
  heard_rows old new (Loads number unit ∷ reports) h =
      let next = heard_rows h.0 new reports h.2 in
      let row = h.1.1 in
      record {
        puts =
            Appends-trans _ _ _ _ _ h.1.0
            (subst (λ (r : Option UnitRow). PutsOn contents h.0.out h.0.page new.out new.page (gone p.codes r reports)) row next.puts);
        row = next.row ∙ ap (λ (r : Option UnitRow). kept p.codes r reports) row;
      }
  heard_rows old new (Makes act entry ∷ reports) h =
      let after = record old { row = option_map (with_step p.codes (Makes act entry)) old.row } in
      let next = heard_rows after new reports (subst (λ (r : UnitRows W). FoldsTo (HearsRows contents p) r reports new) h.1 h.2) in
      record { puts = next.puts; row = next.row }

-- rows of which none was begun, told of a run and finished: the names of the columns, and the rows of its units
pub all_rows : {W : Type 0} (contents : W → Option (List ℕ)) (p : Contents) (old new : UnitRows W) (reports : List Report)
    (end : Option (List ℕ))
    → old.row ≡ None → FoldsTo (HearsRows contents p) old reports new → Appends (paged contents new.out new.page) end (line_before new.row)
    → Appends (paged contents old.out old.page) end (units_text p.codes reports)
all_rows contents p old new reports end fresh heard last =
    let h = heard_rows contents p old new reports heard in
    let text : gone p.codes old.row reports ++ line_before new.row ≡ units_text p.codes reports =
    ap (λ (r : Option UnitRow). gone p.codes old.row reports ++ line_before r) h.row ∙ gone_all p.codes old.row reports
    ∙ ap (λ (r : Option UnitRow). all_text p.codes r reports) fresh in
    subst (Appends (paged contents old.out old.page) end) text (Appends-trans _ _ _ _ _ h.puts last)

-- rows of which none was begun, told of steps, where all that waits is put: what is written of the units that have ended
pub ended_put : {W : Type 0} (contents : W → Option (List ℕ)) (p : Contents) (old new : UnitRows W) (reports : List Report)
    (end : Option (List ℕ))
    → old.row ≡ None → FoldsTo (HearsRows contents p) old reports new → Appends (paged contents new.out new.page) end []
    → Appends (paged contents old.out old.page) end (ended_text p.codes reports)
ended_put contents p old new reports end fresh heard last =
    let h = heard_rows contents p old new reports heard in
    let text : gone p.codes old.row reports ++ [] ≡ ended_text p.codes reports =
    append-nil (gone p.codes old.row reports) ∙ ap (λ (r : Option UnitRow). gone p.codes r reports) fresh ∙ gone_ended p.codes reports in
    subst (Appends (paged contents old.out old.page) end) text (Appends-trans _ _ _ _ _ h.puts last)
