-- The link data units that a certificate loads, a row for each (profile).
use Rattle.std.specs.Prelude.{ℕ, List, [], ◌∷◌, ◌++◌, length, codes, Bool, true, false, Option, Some, None, option_map, slice_get}
use Rattle.std.specs.List.{count_by, list_any, filter_map, flat_map, last_or}
use Rattle.std.specs.Fmt.{decimal}
use Rattle.a429_profile.specs.declared.codes.Codes.{Codes}
use Rattle.a429_ldu.specs.declared.forms.Form.{Form}
use Rattle.a429_ldu.specs.declared.forms.Form.TheVariants.{Rts, Ack, Nak}
use Rattle.a429_ldu.specs.Form.{form_of}
use Rattle.a429_ldu.specs.Ldu.{LduValue, count_of, bytes_of, is_final}
use Rattle.a429_link.specs.declared.number.UnitNumber.{UnitNumber}
use Rattle.a429_record.specs.declared.entry.Entry.{Entry}
use Rattle.a429_cert.specs.declared.act.Act.TheVariants as act
use Rattle.a429_cert.specs.Report.{Report, Loads, Makes}
use Rattle.a429_view.specs.declared.units.size.UnitSize.{UnitSize}
use Rattle.a429_view.specs.declared.units.counts.UnitCounts.{UnitCounts}
use Rattle.a429_view.specs.declared.units.span.Moment.{Moment}
use Rattle.a429_view.specs.declared.units.span.UnitSpan.{UnitSpan}
use Rattle.a429_view.specs.declared.units.row.UnitRow.{UnitRow}

-- ---- the units

-- a link data unit that was loaded, its number, and what is reported before the next one is loaded
pub record LoadedUnit : Type 0 where
  pub number : UnitNumber
  pub unit : LduValue
  pub steps : List Report

-- what is reported before the next load
abbrev pub before_load : List Report → List Report
before_load [] = []
before_load (Loads number unit ∷ reports) = []
before_load (Makes act entry ∷ reports) = Makes act entry ∷ before_load reports

-- what is reported of a run, cut at each load: steps before the first belong to no unit
abbrev pub loaded_units : List Report → List LoadedUnit
loaded_units [] = []
loaded_units (Loads number unit ∷ reports) = record { number = number; unit = unit; steps = before_load reports } ∷ loaded_units reports
loaded_units (Makes act entry ∷ reports) = loaded_units reports

-- of units in their order those that have ended: all but the last
abbrev pub ended_units : List LoadedUnit → List LoadedUnit
ended_units [] = []
ended_units (u ∷ []) = []
ended_units (u ∷ v ∷ units) = u ∷ ended_units (v ∷ units)

-- ---- what a step is

-- the form of a recorded word
abbrev pub form_at : Codes → Option (ℕ × Entry) → Option Form
form_at c None = None
form_at c (Some x) = form_of c x.1.bus x.1.word

abbrev pub is_rts : Option Form → Bool
is_rts (Some (Rts count)) = true
is_rts _ = false

abbrev pub is_nak_form : Option Form → Bool
is_nak_form (Some (Nak bits)) = true
is_nak_form _ = false

abbrev pub is_ack_form : Option Form → Bool
is_ack_form (Some (Ack file ldu)) = true
is_ack_form _ = false

-- a request is recorded
abbrev pub is_request : Codes → Report → Bool
is_request c (Makes act.Sent entry) = is_rts (form_at c entry)
is_request c _ = false

-- a word is lost before the recorder
abbrev pub is_lost : Report → Bool
is_lost (Makes act.SentLost entry) = true
is_lost _ = false

-- an answer is left out
abbrev pub is_unanswered : Report → Bool
is_unanswered (Makes act.Silent entry) = true
is_unanswered _ = false

-- an answer is lost after the recorder
abbrev pub is_unheard : Report → Bool
is_unheard (Makes act.LoseAnswer entry) = true
is_unheard _ = false

-- the source waits no longer
abbrev pub is_time_out : Report → Bool
is_time_out (Makes act.TimeOut entry) = true
is_time_out _ = false

-- a negative answer is recorded
abbrev pub is_nak : Codes → Report → Bool
is_nak c (Makes act.Answered entry) = is_nak_form (form_at c entry)
is_nak c _ = false

-- an acknowledgement is recorded
abbrev pub is_ack : Codes → Report → Bool
is_ack c (Makes act.Answered entry) = is_ack_form (form_at c entry)
is_ack c _ = false

-- the entry of a recorded word, and its time
abbrev pub moment_at : ℕ × Entry → Moment
moment_at x = record { entry = x.0; time = x.1.time }

-- that of a recorded word of the transfer: a free word is none
abbrev pub moment_of : Report → Option Moment
moment_of (Makes act.Sent entry) = option_map moment_at entry
moment_of (Makes act.Answered entry) = option_map moment_at entry
moment_of _ = None

-- ---- the row of a unit

-- how many words its block has, how many bytes they carry, and whether it ends its file
abbrev pub size_of : Codes → LduValue → UnitSize
size_of c u = record { words = count_of u; bytes = length (bytes_of c u); is_final = is_final c u.flags }

-- how many of the steps are so
abbrev pub counts_of : Codes → List Report → UnitCounts
counts_of c steps = record {
  requests = count_by (is_request c) steps;
  lost = count_by is_lost steps;
  unanswered = count_by is_unanswered steps;
  unheard = count_by is_unheard steps;
  naks = count_by (is_nak c) steps;
  timeouts = count_by is_time_out steps;
}

-- the first and the last recorded word, and whether an acknowledgement is among them
abbrev pub span_of : Codes → List Report → UnitSpan
span_of c steps = record {
  first = slice_get (filter_map moment_of steps) 0;
  last = last_or None (filter_map moment_of steps);
  crossed = list_any (is_ack c) steps;
}

abbrev pub row_of : Codes → LoadedUnit → UnitRow
row_of c u = record { number = u.number; size = size_of c u.unit; counts = counts_of c u.steps; span = span_of c u.steps }

-- ---- the text

-- a number, and nothing where there is none, and the comma after it
abbrev pub cell : ℕ → List ℕ
cell n = decimal n ++ codes ","

abbrev pub cell_of : Option ℕ → List ℕ
cell_of None = codes ","
cell_of (Some n) = cell n

abbrev pub yes_no : Bool → List ℕ
yes_no true = codes "yes"
yes_no false = codes "no"

abbrev pub unit_size_text : UnitSize → List ℕ
unit_size_text s = cell s.words ++ cell s.bytes ++ yes_no s.is_final ++ codes ","

abbrev pub counts_text : UnitCounts → List ℕ
counts_text n = cell n.requests ++ cell n.lost ++ cell n.unanswered ++ cell n.unheard ++ cell n.naks ++ cell n.timeouts

-- the entries, then the times
abbrev pub span_text : UnitSpan → List ℕ
span_text s =
    cell_of (option_map (λ (m : Moment). m.entry) s.first) ++ cell_of (option_map (λ (m : Moment). m.entry) s.last)
    ++ cell_of (option_map (λ (m : Moment). m.time) s.first) ++ cell_of (option_map (λ (m : Moment). m.time) s.last)
    ++ yes_no s.crossed

abbrev pub unit_line : UnitRow → List ℕ
unit_line r = cell r.number.file ++ cell r.number.ldu ++ unit_size_text r.size ++ counts_text r.counts ++ span_text r.span ++ codes "\n"

-- the names of the columns
abbrev pub columns_text : List ℕ
columns_text = codes "file,ldu,words,bytes,final,requests,lost,unanswered,unheard,naks,timeouts,first_entry,last_entry,first_time,last_time,crossed\n"

-- the rows of the units of a run
abbrev pub units_text : Codes → List Report → List ℕ
units_text c reports = columns_text ++ flat_map (λ u. unit_line (row_of c u)) (loaded_units reports)

-- before the first load nothing; then the names of the columns, and the rows of the units that have ended
abbrev pub ended_unit_lines : Codes → List LoadedUnit → List ℕ
ended_unit_lines c [] = []
ended_unit_lines c (u ∷ units) = columns_text ++ flat_map (λ v. unit_line (row_of c v)) (ended_units (u ∷ units))

-- what is written of steps after which the unit that was loaded last may go on
abbrev pub ended_text : Codes → List Report → List ℕ
ended_text c reports = ended_unit_lines c (loaded_units reports)
