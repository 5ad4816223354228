-- How the row of an attempt grows by the entries that come one after the other.
use Rattle.std.specs.Prelude.{◌≡◌, ◌+◌, ◌-◌, ◌^◌, ℕ, min, List, [], Bool, true, false, Option, Some, None, option_map, unwrap_or}
use Rattle.std.specs.Option.{option_or}
use Rattle.a429_profile.specs.Profile.{Contents}
use Rattle.a429_ldu.specs.declared.forms.Form.{Form}
use Rattle.a429_link.specs.declared.doing.Doing.{Doing}
use Rattle.a429_link.specs.Implied.{implies, observer_of}
use Rattle.a429_link.specs.Observer.{Allows}
use Rattle.a429_record.specs.declared.entry.Entry.{Entry}
use Rattle.a429_cert.specs.Explained.{seen_of}
use Rattle.a429_view.specs.declared.units.span.Moment.{Moment}
use Rattle.a429_view.specs.declared.blocks.row.AttemptRow.{AttemptRow}
use Rattle.a429_view.specs.declared.blocks.Blocks.{Blocks}
use Rattle.a429_view.specs.Blocks.{Placed, answer_by, answer_in, asked_by, ended_line, form_at, is_damaged, is_of_block, moment_at, moment_in, unit_by, why_by, why_in}

-- one more where it is so; the largest number stays
abbrev pub counted : Bool → ℕ → ℕ
counted true n = min (n + 1) (2 ^ 64 - 1)
counted false n = n

-- the row of an attempt whose request is here and asks for so many words
abbrev pub begun : Moment → ℕ → AttemptRow
begun m asked = record { first = m; last = m; unit = None; asked = asked; got = 0; damaged = 0; answer = None; why = None }

-- a row after a free word with the transfer's label
abbrev pub passed : Moment → Bool → AttemptRow → AttemptRow
passed m damaged r = record r { last = m; damaged = counted damaged r.damaged }

-- a row after a word of this form, after which the sink does this
abbrev pub noted : Moment → Form → Doing → AttemptRow → AttemptRow
noted m f d r = record {
  first = r.first;
  last = m;
  unit = option_or (unit_by (Some f)) r.unit;
  asked = r.asked;
  got = counted (is_of_block (Some f)) r.got;
  damaged = r.damaged;
  answer = option_or (answer_by f d) r.answer;
  why = option_or (why_by f d) r.why;
}

-- the row of the attempt after a word of this form: that of another attempt, where it is a request
abbrev pub row_after : Moment → Option ℕ → Option AttemptRow → Option AttemptRow
row_after m None row = row
row_after m (Some asked) row = Some (begun m asked)

-- the row of the attempt that ends, where there is one
abbrev pub ended_before : Option AttemptRow → List ℕ
ended_before None = []
ended_before (Some r) = ended_line r

-- the row of the attempt that a request ends; no other word ends one
abbrev pub line_before : Option ℕ → Option AttemptRow → List ℕ
line_before None row = []
line_before (Some asked) row = ended_before row

-- a row after any entry
abbrev pub grown : Contents → Placed → AttemptRow → AttemptRow
grown p x r = record {
  first = r.first;
  last = unwrap_or (moment_in p.codes x) r.last;
  unit = option_or (unit_by (form_at p.codes x)) r.unit;
  asked = r.asked;
  got = counted (is_of_block (form_at p.codes x)) r.got;
  damaged = counted (is_damaged p.codes x.entry) r.damaged;
  answer = option_or (answer_in p x (form_at p.codes x)) r.answer;
  why = option_or (why_in p x (form_at p.codes x)) r.why;
}

-- the row of the attempt after any entry
abbrev pub row_with : Contents → Placed → Option AttemptRow → Option AttemptRow
row_with p x row = row_after (moment_at x) (asked_by (form_at p.codes x)) (option_map (grown p x) row)

-- the next entry, at its place
abbrev pub place_next : Blocks → Entry → Placed
place_next b e = record { number = b.entries; entry = e; before = b.sink }

-- one more entry, which is allowed
pub record StepsOn (p : Contents) (e : Entry) (old new : Blocks) : Type 0 where
  pub allowed : Allows p (observer_of old.sink) (seen_of e)
  pub entries : new.entries ≡ min (old.entries + 1) (2 ^ 64 - 1)
  pub sink : new.sink ≡ implies p (seen_of e) old.sink
  pub row : new.row ≡ row_with p (place_next old e) old.row
