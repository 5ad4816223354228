-- The attempts of a recording, a row for each (profile).
use Rattle.std.specs.Prelude.{◌≡◌, ℕ, suc, ◌%◌, ◌==◌, not, ◌&&◌, if◌then◌else◌, List, [], ◌∷◌, ◌++◌, length, map, flat_map, codes, Bool, true, false, Option, Some, None, unwrap_or}
use Rattle.std.specs.List.{count_by, filter_map, last_or}
use Rattle.a429_word.specs.Word.{count_of_ones}
use Rattle.a429_word.specs.declared.bus.Bus.{Bus}
use Rattle.a429_word.specs.declared.bus.Bus.TheVariants as bus
use Rattle.a429_word.specs.declared.sheet.Sheet.{Sheet}
use Rattle.a429_word.specs.Sheet.{Says}
use Rattle.a429_profile.specs.declared.codes.Codes.{Codes}
use Rattle.a429_profile.specs.Profile.{Contents}
use Rattle.a429_ldu.specs.declared.forms.Form.{Form}
use Rattle.a429_ldu.specs.declared.forms.Form.TheVariants as form
use Rattle.a429_ldu.specs.Form.{form_of}
use Rattle.a429_link.specs.declared.number.UnitNumber.{UnitNumber}
use Rattle.a429_link.specs.declared.why.Why.{Why}
use Rattle.a429_link.specs.declared.why.Why.TheVariants as why
use Rattle.a429_link.specs.declared.doing.Doing.{Doing}
use Rattle.a429_link.specs.declared.doing.Doing.TheVariants as doing
use Rattle.a429_link.specs.Implied.{Implied, does, implied, implied_at_first, implies}
use Rattle.a429_record.specs.declared.entry.Entry.{Entry}
use Rattle.a429_cert.specs.Explained.{items_of, seen_of}
use Rattle.a429_view.specs.declared.units.span.Moment.{Moment}
use Rattle.a429_view.specs.declared.blocks.row.Answer.{Answer}
use Rattle.a429_view.specs.declared.blocks.row.Answer.TheVariants as answer
use Rattle.a429_view.specs.declared.blocks.row.AttemptRow.{AttemptRow}
use Rattle.a429_view.specs.declared.blocks.Blocks.{Blocks}
use Rattle.a429_view.specs.declared.trace.TraceStop.{TraceStop}
use Rattle.a429_view.specs.declared.trace.TraceStop.TheVariants as stop
use Rattle.a429_view.specs.Trace.{has_line}
use Rattle.a429_view.specs.Units.{cell}

-- ---- the entries

-- an entry at its place: its number, and what the entries before it imply of the sink
pub record Placed : Type 0 where
  pub number : ℕ
  pub entry : Entry
  pub before : Implied

-- entries from number n on, after those that imply this
abbrev pub placed_from : Contents → ℕ → Implied → List Entry → List Placed
placed_from p n k [] = []
placed_from p n k (e ∷ es) = record { number = n; entry = e; before = k } ∷ placed_from p (suc n) (implies p (seen_of e) k) es

abbrev pub placed : Contents → List Entry → List Placed
placed p es = placed_from p 0 implied_at_first es

-- ---- what an entry is to an attempt

-- the form of its word
abbrev pub form_at : Codes → Placed → Option Form
form_at c x = form_of c x.entry.bus x.entry.word

-- a request, by how many words it asks for
abbrev pub asked_by : Option Form → Option ℕ
asked_by (Some (form.Rts count)) = Some count
asked_by _ = None

-- a start word, by its number
abbrev pub unit_by : Option Form → Option UnitNumber
unit_by (Some (form.Sot gfi file ldu)) = Some (record { file = file; ldu = ldu })
unit_by _ = None

-- a start, data or end word
abbrev pub is_of_block : Option Form → Bool
is_of_block (Some (form.Sot gfi file ldu)) = true
is_of_block (Some (form.Part semis)) = true
is_of_block (Some (form.Eot flags check)) = true
is_of_block _ = false

-- an acknowledgement, by what the sink does with the block
abbrev pub acknowledged_by : Doing → Answer
acknowledged_by (doing.Again file ldu) = answer.Again
acknowledged_by _ = answer.Accepted

-- an answer, by its form and by what the sink does then
abbrev pub answer_by : Form → Doing → Option Answer
answer_by (form.Cts count) d = Some answer.Clear
answer_by (form.Ack file ldu) d = Some (acknowledged_by d)
answer_by (form.Nak bits) d = Some answer.Negative
answer_by _ d = None

-- an end word, by why the sink does not take the block
abbrev pub why_by : Form → Doing → Option Why
why_by (form.Eot flags check) (doing.OwesNak reason) = Some reason
why_by _ d = None

-- the same of an entry, whose word has this form or none
abbrev pub answer_in : Contents → Placed → Option Form → Option Answer
answer_in p x None = None
answer_in p x (Some f) = answer_by f (does p x.entry.bus x.entry.word f x.before.sink)

abbrev pub why_in : Contents → Placed → Option Form → Option Why
why_in p x None = None
why_in p x (Some f) = why_by f (does p x.entry.bus x.entry.word f x.before.sink)

abbrev pub is_a : Bus → Bool
is_a bus.A = true
is_a bus.B = false

abbrev pub is_odd : ℕ → Bool
is_odd w = count_of_ones w % 2 == 1

-- a word of bus A that has the transfer's label and wrong parity
abbrev pub is_damaged : Codes → Entry → Bool
is_damaged c e = is_a e.bus && (has_line c e && not (is_odd e.word))

-- its number and its time
abbrev pub moment_at : Placed → Moment
moment_at x = record { entry = x.number; time = x.entry.time }

-- the same, where its word has the transfer's label of its bus
abbrev pub moment_in : Codes → Placed → Option Moment
moment_in c x = if has_line c x.entry then Some (moment_at x) else None

-- ---- the attempts

-- a request, for how many words, and the entries after it up to the next request
pub record Attempt : Type 0 where
  pub request : Placed
  pub asked : ℕ
  pub after : List Placed

-- the entry begins an attempt with these after it, where it is a request
abbrev pub attempt_by : Placed → Option ℕ → List Placed → List Attempt
attempt_by x None after = []
attempt_by x (Some asked) after = record { request = x; asked = asked; after = after } ∷ []

-- the entry, and these after it, where it is no request
abbrev pub up_to : Placed → Option ℕ → List Placed → List Placed
up_to x None after = x ∷ after
up_to x (Some asked) after = []

-- the entries before the first request
abbrev pub before_request : Codes → List Placed → List Placed
before_request c [] = []
before_request c (x ∷ xs) = up_to x (asked_by (form_at c x)) (before_request c xs)

-- entries cut at each request: those before the first belong to no attempt
abbrev pub attempts : Codes → List Placed → List Attempt
attempts c [] = []
attempts c (x ∷ xs) = attempt_by x (asked_by (form_at c x)) (before_request c xs) ++ attempts c xs

-- ---- the row of an attempt

-- the last that an entry gives, if one does
abbrev pub latest : {T : Type 0} → (Placed → Option T) → List Placed → Option T
latest f xs = last_or None (filter_map f xs)

abbrev pub row_of : Contents → Attempt → AttemptRow
row_of p a = record {
  first = moment_at a.request;
  last = unwrap_or (latest (moment_in p.codes) a.after) (moment_at a.request);
  unit = latest (λ x. unit_by (form_at p.codes x)) a.after;
  asked = a.asked;
  got = count_by (λ x. is_of_block (form_at p.codes x)) a.after;
  damaged = count_by (λ x. is_damaged p.codes x.entry) a.after;
  answer = latest (λ x. answer_in p x (form_at p.codes x)) a.after;
  why = latest (λ x. why_in p x (form_at p.codes x)) a.after;
}

-- the rows of the attempts of these entries
abbrev pub rows_of : Contents → List Entry → List AttemptRow
rows_of p es = map (row_of p) (attempts p.codes (placed p es))

-- of rows in their order those of attempts that have ended: all but the last
abbrev pub ended_rows : List AttemptRow → List AttemptRow
ended_rows [] = []
ended_rows (r ∷ []) = []
ended_rows (r ∷ s ∷ rows) = r ∷ ended_rows (s ∷ rows)

-- ---- the text

-- the number of a start word; nothing where none was recorded
abbrev pub unit_cells : Option UnitNumber → List ℕ
unit_cells None = codes ",,"
unit_cells (Some u) = cell u.file ++ cell u.ldu

-- what became of an attempt, by the last answer, where another attempt comes after it
abbrev pub ended_outcome : Option Answer → List ℕ
ended_outcome None = codes "ungranted"
ended_outcome (Some answer.Clear) = codes "unanswered"
ended_outcome (Some answer.Accepted) = codes "acknowledged"
ended_outcome (Some answer.Again) = codes "again"
ended_outcome (Some answer.Negative) = codes "refused"

-- and of the last attempt
abbrev pub last_outcome : Option Answer → List ℕ
last_outcome None = codes "open"
last_outcome (Some answer.Clear) = codes "open"
last_outcome (Some x) = ended_outcome (Some x)

abbrev pub why_cell : Option Why → List ℕ
why_cell None = []
why_cell (Some why.NoStart) = codes "no-start"
why_cell (Some (why.OtherCount words asked)) = codes "too-few"
why_cell (Some (why.HalfBytes semis)) = codes "half-bytes"
why_cell (Some (why.OtherCheck check)) = codes "check"
why_cell (Some why.OutOfSequence) = codes "sequence"

-- the entries, then the times
abbrev pub moments_text : Moment → Moment → List ℕ
moments_text first last = cell first.entry ++ cell last.entry ++ cell first.time ++ cell last.time

abbrev pub counts_text : AttemptRow → List ℕ
counts_text r = cell r.asked ++ cell r.got ++ cell r.damaged

-- a row with this outcome
abbrev pub row_line : AttemptRow → List ℕ → List ℕ
row_line r outcome = moments_text r.first r.last ++ unit_cells r.unit ++ counts_text r ++ outcome ++ codes "," ++ why_cell r.why ++ codes "\n"

abbrev pub ended_line : AttemptRow → List ℕ
ended_line r = row_line r (ended_outcome r.answer)

-- the row of the last attempt, where there is one
abbrev pub last_line : Option AttemptRow → List ℕ
last_line None = []
last_line (Some r) = row_line r (last_outcome r.answer)

-- the names of the columns
abbrev pub columns_text : List ℕ
columns_text = codes "first,last,from,to,file,ldu,asked,got,damaged,outcome,why\n"

-- what is written of entries, where more of the last attempt may come
abbrev pub begun_text : Contents → List Entry → List ℕ
begun_text p es = columns_text ++ flat_map ended_line (ended_rows (rows_of p es))

-- the text of a whole recording
abbrev pub blocks_text : Contents → List Entry → List ℕ
blocks_text p es = begun_text p es ++ last_line (last_or None (rows_of p es))

-- entry n, which no run records after those before it
abbrev pub not_allowed_line : ℕ → Entry → List ℕ
not_allowed_line n e = let here : Moment = record { entry = n; time = e.time } in moments_text here here ++ codes ",,,,,not-allowed,\n"

-- the text of entries, and of one that no run records after them
abbrev pub refused_text : Contents → List Entry → Entry → List ℕ
refused_text p es e = blocks_text p es ++ not_allowed_line (length es) e

-- ---- the rows of entries that come one by one

-- the blocks of these entries: how many they are, what they imply, and the row of the last attempt
pub record IsBlocks (p : Contents) (b : Blocks) (es : List Entry) : Type 0 where
  pub entries : b.entries ≡ length es
  pub sink : b.sink ≡ implied p (items_of es) implied_at_first
  pub row : b.row ≡ last_or None (rows_of p es)

-- a sheet on which one text was put has the other now
pub record PutsOnTo {W : Type 0} (contents : W → Option (List ℕ)) (a b : Sheet W) (before after : List ℕ) : Type 0 where
  pub more : List ℕ
  pub is : after ≡ before ++ more
  pub says : Says contents a b more

-- the text, where the rows do not go on
abbrev pub stopped_text : Contents → List Entry → Entry → TraceStop → List ℕ
stopped_text p es e (stop.Refused sight) = refused_text p es e
stopped_text p es e stop.OutOfMemory = begun_text p es
