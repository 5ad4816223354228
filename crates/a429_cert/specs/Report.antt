-- What is reported to a listener of the steps of a certificate (profile).
use Rattle.std.specs.Prelude.{◌≡◌, ◌+◌, ℕ, zero, suc, List, [], ◌∷◌, length, Option, Some, None, option_map, slice_get, ⊤, IfSome}
use Rattle.std.specs.List.{FoldsTo}
use Rattle.a429_profile.specs.Profile.{Contents}
use Rattle.a429_ldu.specs.Ldu.{LduValue}
use Rattle.a429_link.specs.declared.number.UnitNumber.{UnitNumber}
use Rattle.a429_link.specs.declared.step.Step.{Step}
use Rattle.a429_link.specs.declared.step.Step.TheVariants as step
use Rattle.a429_link.specs.Step.{after}
use Rattle.a429_link.specs.State.{State, start}
use Rattle.a429_link.specs.Run.{trace}
use Rattle.a429_record.specs.declared.entry.Entry.{Entry}
use Rattle.a429_record.specs.Recording.{Recording}
use Rattle.a429_cert.specs.declared.act.Act.{Act}
use Rattle.a429_cert.specs.declared.act.Act.TheVariants as act
use Rattle.a429_cert.specs.declared.listed.Listed.{Listed}
use Rattle.a429_cert.specs.declared.listed.Listed.TheVariants as listed
use Rattle.a429_cert.specs.declared.line.CertLine.{CertLine}
use Rattle.a429_cert.specs.Explained.{items_of, Explains}
use Rattle.a429_cert.specs.Fault.{SaysLine}
use Rattle.a429_cert.specs.Passing.{uses_listed, IsStepOfLine}

-- ---- what is reported of a step

pub data Report : Type 0 where
  -- this link data unit is loaded at the source, under this number
  Loads : (number : UnitNumber) (unit : LduValue) → Report
  -- another step, by its name, and the entry that it records, if it records one, with its number, counted from 0
  Makes : (act : Act) (entry : Option (ℕ × Entry)) → Report

-- an entry with this number
abbrev pub with_number : ℕ → Option Entry → Option (ℕ × Entry)
with_number i entry = option_map (λ e. (i, e)) entry

-- entry i, with its number
abbrev pub entry_numbered : List Entry → ℕ → Option (ℕ × Entry)
entry_numbered entries i = with_number i (slice_get entries i)

-- of a step that is made in this state, where entry i comes next
abbrev pub report_of : List Entry → State → ℕ → Step → Report
report_of es s i (step.Load u) = Loads s.source.number u
report_of es s i (step.Sent item) = Makes act.Sent (entry_numbered es i)
report_of es s i step.SentLost = Makes act.SentLost None
report_of es s i step.TimeOut = Makes act.TimeOut None
report_of es s i step.TakeAnswer = Makes act.TakeAnswer None
report_of es s i step.LoseAnswer = Makes act.LoseAnswer None
report_of es s i step.SinkTakes = Makes act.SinkTakes None
report_of es s i step.Silent = Makes act.Silent None
report_of es s i (step.Answered item) = Makes act.Answered (entry_numbered es i)
report_of es s i (step.FreeSeen item) = Makes act.FreeSeen (entry_numbered es i)
report_of es s i step.GiveUp = Makes act.GiveUp None

-- of steps, one after the other, from this state on, where entry i comes next
abbrev pub reports_of_steps : Contents → List Entry → List Step → State → ℕ → List Report
reports_of_steps p es [] s i = []
reports_of_steps p es (a ∷ steps) s i = report_of es s i a ∷ reports_of_steps p es steps (after p a s) (i + length (trace (a ∷ [])))

-- of a run from its start
abbrev pub reports_of_run : Contents → List Entry → ℕ → List Step → List Report
reports_of_run p es first steps = reports_of_steps p es steps (start p first) 0

-- ---- to whom it is reported

-- how a listener changes by what is reported to it, under a profile
abbrev pub Hearing : Type 0 → Type 1
Hearing T = Contents → T → Report → T → Type 0

-- a listener before and after
pub record Listening (T : Type 0) : Type 1 where
  pub hears : Hearing T
  pub old : T
  pub new : T

abbrev pub listening : {T : Type 0} → Hearing T → T → T → Listening T
listening hears old new = record { hears = hears; old = old; new = new }

-- a listener was given some reports under a profile, one after the other, whether it has taken each or has failed at it
abbrev pub TriesSome : {T : Type 0} → Listening T → Contents → Type 0
TriesSome l p = (reports : List Report) × FoldsTo (l.hears p) l.old reports l.new

-- a listener has heard the steps of the run by which the certificate explains the recorded words, each once and in order
pub record IsHeard {T : Type 0} (l : Listening T) (p : Contents) (text : List ℕ) (r : Recording) : Type 0 where
  pub first : ℕ
  pub steps : List Step
  pub explains : Explains p text (items_of r.entries) first steps
  pub heard : FoldsTo (l.hears p) l.old (reports_of_run p r.entries first steps) l.new

-- ---- one line

-- what a line lists, reported with the entry that it uses
abbrev pub report_of_listed : UnitNumber → Listed → Option (ℕ × Entry) → Report
report_of_listed number (listed.Load u) entry = Loads number u
report_of_listed number (listed.Moved l) entry = Makes l.act entry

-- of the entries that come next the first, where one is used
abbrev pub entry_used : ℕ → List Entry → Option Entry
entry_used zero entries = None
entry_used (suc n) entries = slice_get entries 0

-- this is the entry that comes next, where a step uses one
abbrev pub IsNextEntry : ℕ → Option Recording → Option Entry → Type 0
IsNextEntry n None entry = ⊤
IsNextEntry n (Some r) entry = entry ≡ entry_used n r.entries

-- where a line is taken: the state before it, the recording that is still to come, where it is known, and the number of its first entry
pub record Position : Type 0 where
  pub state : State
  pub recording : Option Recording
  pub entry : ℕ

abbrev pub position : State → Option Recording → ℕ → Position
position s rec i = record { state = s; recording = rec; entry = i }

-- what a line lists is reported to a listener, with the entry that comes next, if it uses one
abbrev pub HearsListed : {T : Type 0} → Listening T → Contents → Listed → Position → Type 0
HearsListed l p x at = IfSome at.recording (λ r. l.hears p l.old (report_of_listed at.state.source.number x (with_number at.entry (entry_used (uses_listed x) r.entries))) l.new)

-- of what a line of the text lists
abbrev pub HearsText : {T : Type 0} → Listening T → Contents → Option (List ℕ) → Position → Type 0
HearsText h p text at = (l : CertLine) × (x : Listed) × SaysLine text l × IsStepOfLine x l × HearsListed h p x at
