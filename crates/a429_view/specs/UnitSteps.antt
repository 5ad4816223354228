-- How the row of a link data unit grows by the steps that are reported one after the other.
use Rattle.std.specs.Prelude.{◌≡◌, ◌+◌, ◌++◌, ℕ, List, Bool, true, false, ◌||◌, Option, Some, None, option_map}
use Rattle.std.specs.List.{flat_map}
use Rattle.std.specs.Io.KnownBytes.{Appends, Keeps}
use Rattle.a429_word.specs.Tally.{inner_of, has_failed, AppendsPrefix}
use Rattle.a429_word.specs.Page.{paged, PutsOn}
use Rattle.a429_profile.specs.declared.codes.Codes.{Codes}
use Rattle.a429_profile.specs.Profile.{Contents}
use Rattle.a429_ldu.specs.Ldu.{LduValue}
use Rattle.a429_link.specs.declared.number.UnitNumber.{UnitNumber}
use Rattle.a429_cert.specs.Report.{Report, Loads, Makes}
use Rattle.a429_view.specs.declared.units.counts.UnitCounts.{UnitCounts}
use Rattle.a429_view.specs.declared.units.span.Moment.{Moment}
use Rattle.a429_view.specs.declared.units.span.UnitSpan.{UnitSpan}
use Rattle.a429_view.specs.declared.units.row.UnitRow.{UnitRow}
use Rattle.a429_view.specs.declared.units.rows.UnitRows.{UnitRows}
use Rattle.a429_view.specs.Units.{is_request, is_lost, is_unanswered, is_unheard, is_nak, is_time_out, is_ack, moment_of, size_of, unit_line, columns_text}

-- one more where it is so
abbrev pub more : Bool → ℕ → ℕ
more true n = n + 1
more false n = n

-- the first of two that is there
abbrev pub either : Option Moment → Option Moment → Option Moment
either None m = m
either (Some a) m = Some a

abbrev pub recounted : Codes → Report → UnitCounts → UnitCounts
recounted c t n = record {
  requests = more (is_request c t) n.requests;
  lost = more (is_lost t) n.lost;
  unanswered = more (is_unanswered t) n.unanswered;
  unheard = more (is_unheard t) n.unheard;
  naks = more (is_nak c t) n.naks;
  timeouts = more (is_time_out t) n.timeouts;
}

abbrev pub spanned : Codes → Report → UnitSpan → UnitSpan
spanned c t s = record { first = either s.first (moment_of t); last = either (moment_of t) s.last; crossed = s.crossed || is_ack c t }

-- the row of a unit of which nothing is reported yet
abbrev pub no_counts : UnitCounts
no_counts = record { requests = 0; lost = 0; unanswered = 0; unheard = 0; naks = 0; timeouts = 0 }

abbrev pub no_span : UnitSpan
no_span = record { first = None; last = None; crossed = false }

abbrev pub begun : Codes → UnitNumber → LduValue → UnitRow
begun c number u = record { number = number; size = size_of c u; counts = no_counts; span = no_span }

-- a row after one more step
abbrev pub with_step : Codes → Report → UnitRow → UnitRow
with_step c t r = record { number = r.number; size = r.size; counts = recounted c t r.counts; span = spanned c t r.span }

-- what goes out before the next row is begun: the row of the last unit, and before the first the names of the columns
abbrev pub line_before : Option UnitRow → List ℕ
line_before None = columns_text
line_before (Some r) = unit_line r

-- rows to which something is reported: a load puts the row of the unit before, a step changes the row of the unit that was loaded last
abbrev pub HearsRows : {W : Type 0} → (W → Option (List ℕ)) → Contents → UnitRows W → Report → UnitRows W → Type 0
HearsRows contents p old (Loads number unit) new = PutsOn contents old.out old.page new.out new.page (line_before old.row) × (new.row ≡ Some (begun p.codes number unit))
HearsRows contents p old (Makes act entry) new = new ≡ record old { row = option_map (with_step p.codes (Makes act entry)) old.row }

-- all that waited to be put has gone out, and this text after it
abbrev pub PutsAll : {W : Type 0} → (W → Option (List ℕ)) → UnitRows W → UnitRows W → List ℕ → Type 0
PutsAll contents old new text = Appends (paged contents old.out old.page) (contents (inner_of new.out)) text

-- none waits to be put: the output has all that was
abbrev pub NoneWaits : {W : Type 0} → (W → Option (List ℕ)) → UnitRows W → Type 0
NoneWaits contents rows = Keeps (paged contents rows.out rows.page) (contents (inner_of rows.out))

-- ---- where not all may have been put

-- a text was put after what waited: all of it where the output works; in any case a prefix of what waited and of it has gone out, at most, and nothing
-- where the output had failed before
pub record PutsInPart {W : Type 0} (contents : W → Option (List ℕ)) (old new : UnitRows W) (text : List ℕ) : Type 0 where
  pub all : has_failed new.out ≡ false → PutsOn contents old.out old.page new.out new.page text
  pub prefix : AppendsPrefix (contents (inner_of old.out)) (contents (inner_of new.out)) (old.page ++ text)
  pub stays : has_failed old.out ≡ true → new.out ≡ old.out

-- rows that were given a report, whether they have taken it or have failed at it: a load puts the row of the unit before, or fails at that; a step changes
-- no more than the row of the unit that was loaded last
abbrev pub TriesRows : {W : Type 0} → (W → Option (List ℕ)) → Contents → UnitRows W → Report → UnitRows W → Type 0
TriesRows contents p old (Loads number unit) new = PutsInPart contents old new (line_before old.row)
TriesRows contents p old (Makes act entry) new = new ≡ record old { row = new.row }

-- lines, each of which has the names of the columns or is the row of a unit
abbrev pub AreRowLines : List ℕ → Type 0
AreRowLines text = (lines : List (Option UnitRow)) × (text ≡ flat_map line_before lines)
