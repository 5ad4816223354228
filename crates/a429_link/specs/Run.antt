-- Runs of a source and a sink: what they record, deliver, offer and settle.
use Rattle.std.specs.Prelude.{ℕ, ◌≡◌, ◌⊎◌, ◌+◌, ◌≤◌, Bool, false, ◌&&◌, if◌then◌else◌, List, [], ◌∷◌, ◌++◌, length, Option, Some, None}
use Rattle.a429_word.specs.declared.bus.Bus.TheVariants as bus
use Rattle.a429_profile.specs.declared.codes.Codes.{Codes}
use Rattle.a429_profile.specs.Profile.{Contents, IsProfile}
use Rattle.a429_ldu.specs.declared.forms.Form.{Form}
use Rattle.a429_ldu.specs.Form.{form_of}
use Rattle.a429_ldu.specs.Ldu.{LduValue, bytes_of, is_final}
use Rattle.a429_link.specs.declared.file.FileBytes.{FileBytes}
use Rattle.a429_link.specs.declared.seen.Seen.{Seen}
use Rattle.a429_link.specs.declared.step.Step.{Step}
use Rattle.a429_link.specs.declared.step.Step.TheVariants.{Load, TakeAnswer, GiveUp}
use Rattle.a429_link.specs.Source.{Source, is_own_ack}
use Rattle.a429_link.specs.declared.state.SourceState.{SourceState}
use Rattle.a429_link.specs.declared.state.SourceState.TheVariants.{Sending}
use Rattle.a429_link.specs.declared.number.UnitNumber.{UnitNumber}
use Rattle.a429_link.specs.Number.{files_past}
use Rattle.a429_link.specs.Sink.{Number, Received, SinkPhase, InBlock, put, emptied, held_count, nothing_received}
use Rattle.a429_link.specs.Step.{Can, after, label}
use Rattle.a429_link.specs.State.{start, State}

-- each step may be made where the ones before it lead
abbrev pub IsRun : Contents → List Step → State → Type 0
IsRun p [] s = Unit {0}
IsRun p (a ∷ steps) s = Can p a s × IsRun p steps (after p a s)

abbrev pub end_of : Contents → List Step → State → State
end_of p [] s = s
end_of p (a ∷ steps) s = end_of p steps (after p a s)

-- the recorded words, in order
abbrev pub with_label : Option Seen → List Seen → List Seen
with_label None items = items
with_label (Some i) items = i ∷ items

abbrev pub trace : List Step → List Seen
trace [] = []
trace (a ∷ steps) = with_label (label a) (trace steps)

-- the files that the sink has delivered at the end of a run from the start
abbrev pub delivered : Contents → ℕ → List Step → List FileBytes
delivered p first steps = (end_of p steps (start p first)).sink.received.files

-- ---- offered: the link data units that were loaded, in order, cut after each final one, and where a file is given up

-- a loaded link data unit joins its file, under the source's number; a final one closes it. Of a file that is given up
-- before it is closed nothing is left
abbrev pub offers : Contents → Step → State → Received → Received
offers p (Load u) s o = put s.source.number.file (bytes_of p.codes u) (is_final p.codes u.flags) o
offers p GiveUp s o = emptied o
offers p _ s o = o

abbrev pub offered_from : Contents → List Step → State → Received → Received
offered_from p [] s o = o
offered_from p (a ∷ steps) s o = offered_from p steps (after p a s) (offers p a s o)

abbrev pub offered : Contents → ℕ → List Step → List FileBytes
offered p first steps = (offered_from p steps (start p first) nothing_received).files

-- ---- settled: the offered files whose final link data unit the source takes as acknowledged

abbrev pub is_own_ack_form : Source → Option Form → Bool
is_own_ack_form s None = false
is_own_ack_form s (Some x) = is_own_ack s.number s.phase x

abbrev pub is_final_unit : Codes → Option LduValue → Bool
is_final_unit c None = false
is_final_unit c (Some u) = is_final c u.flags

-- the first of these answers is the acknowledgement of a final link data unit that is current
abbrev pub ends_file : Codes → Source → List ℕ → Bool
ends_file c s [] = false
ends_file c s (w ∷ ws) = is_own_ack_form s (form_of c bus.B w) && is_final_unit c s.current

-- the file that was offered last
abbrev pub newest : List FileBytes → List FileBytes
newest [] = []
newest (x ∷ []) = x ∷ []
newest (x ∷ (y ∷ ys)) = newest (y ∷ ys)

abbrev pub settles : Contents → Step → State → Received → List FileBytes → List FileBytes
settles p TakeAnswer s o xs = if ends_file p.codes s.source s.to_source then xs ++ newest o.files else xs
settles p _ s o xs = xs

abbrev pub settled_from : Contents → List Step → State → Received → List FileBytes → List FileBytes
settled_from p [] s o xs = xs
settled_from p (a ∷ steps) s o xs = settled_from p steps (after p a s) (offers p a s o) (settles p a s o xs)

abbrev pub settled : Contents → ℕ → List Step → List FileBytes
settled p first steps = settled_from p steps (start p first) nothing_received []

-- ---- what is said of runs

-- the steps are a run of a profile, whose first file has this number
pub record IsRunFrom (p : Contents) (first : ℕ) (steps : List Step) : Type 0 where
  pub sound : IsProfile p
  pub byte : first ≤ 255
  pub run : IsRun p steps (start p first)

-- a run of a profile: the number of its first file, and its steps
pub record RunOf (p : Contents) : Type 0 where
  pub first : ℕ
  pub steps : List Step
  pub is_run : IsRunFrom p first steps

-- the files that it delivers
abbrev pub delivered_by : {p : Contents} → RunOf p → List FileBytes
delivered_by {p} r = delivered p r.first r.steps

-- those that its source offers
abbrev pub offered_by : {p : Contents} → RunOf p → List FileBytes
offered_by {p} r = offered p r.first r.steps

-- those of them that its source takes as acknowledged
abbrev pub settled_by : {p : Contents} → RunOf p → List FileBytes
settled_by {p} r = settled p r.first r.steps

-- the state that it leads to
abbrev pub reached_by : {p : Contents} → RunOf p → State
reached_by {p} r = end_of p r.steps (start p r.first)

-- the first are some of the second, in their order
abbrev pub IsSubsequenceOf : {X : Type 0} → List X → List X → Type 0
IsSubsequenceOf xs [] = xs ≡ []
IsSubsequenceOf {X} xs (y ∷ ys) = IsSubsequenceOf xs ys ⊎ ((zs : List X) × (xs ≡ y ∷ zs) × IsSubsequenceOf zs ys)

-- of a block that it still sends, the source has sent at most 254 words
abbrev pub SentFew : SourceState → Type 0
SentFew (Sending k) = k ≤ 254
SentFew _ = Unit {0}

-- of a block that it still takes, the sink has taken at most 254 words
abbrev pub TookFew : SinkPhase → Type 0
TookFew (InBlock b) = held_count (InBlock b) ≤ 254
TookFew _ = Unit {0}

-- what a state keeps at most, its delivered files aside (it has one link data unit, or none)
pub record IsBounded (s : State) : Type 0 where
  pub sent : SentFew s.source.phase
  pub took : TookFew s.sink.phase
  pub words : length s.to_sink + held_count s.sink.phase ≤ 255
  pub answers : length s.to_source ≤ 1
  pub bytes : length s.sink.received.open_bytes ≤ 161160

-- the file of this number is at most 128 past that of the link data unit accepted last
abbrev pub IsNear : Option Number → UnitNumber → Type 0
IsNear None n = Unit {0}
IsNear (Some last) n = files_past n.file last.number.file ≤ 128

-- some run from the start leads here
pub record IsReached (p : Contents) (s : State) : Type 0 where
  pub first : ℕ
  pub byte : first ≤ 255
  pub steps : List Step
  pub run : IsRun p steps (start p first)
  pub ends : end_of p steps (start p first) ≡ s

-- some run's trace begins so
pub record BeginsARun (p : Contents) (items : List Seen) : Type 0 where
  pub first : ℕ
  pub byte : first ≤ 255
  pub steps : List Step
  pub run : IsRun p steps (start p first)
  pub more : List Seen
  pub records : trace steps ≡ items ++ more

-- some run records these words next to each other, others before and after them
pub record IsPartOfARun (p : Contents) (items : List Seen) : Type 0 where
  pub first : ℕ
  pub byte : first ≤ 255
  pub steps : List Step
  pub run : IsRun p steps (start p first)
  pub before : List Seen
  pub more : List Seen
  pub records : trace steps ≡ before ++ (items ++ more)
