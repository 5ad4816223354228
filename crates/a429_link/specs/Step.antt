-- The steps of a transfer: source, sink, and the recorded words between them (ARINC 429 Part 3; what may
-- be lost, when a source no longer waits, and where the recorder listens: profile).
use Rattle.std.specs.Prelude.{◌≡◌, ◌+◌, ◌≤◌, true, [], ◌∷◌, ◌++◌, Option, Some, None, IsSome}
use Rattle.a429_word.specs.declared.bus.Bus.TheVariants as bus
use Rattle.a429_profile.specs.Profile.{Contents}
use Rattle.a429_ldu.specs.Form.{form_of, is_free}
use Rattle.a429_ldu.specs.Ldu.{IsLdu}
use Rattle.a429_link.specs.declared.state.SourceState.TheVariants.{Idle}
use Rattle.a429_link.specs.declared.seen.Seen.{Seen}
use Rattle.a429_link.specs.declared.step.Step.{Step}
use Rattle.a429_link.specs.declared.fault.StepFault.{StepFault}
use Rattle.a429_link.specs.declared.fault.StepFault.TheVariants as fault
use Rattle.a429_link.specs.declared.step.Step.TheVariants.{Load, Sent, SentLost, TimeOut, TakeAnswer, LoseAnswer, SinkTakes, Silent, Answered, FreeSeen, GiveUp}
use Rattle.a429_link.specs.Source.{IsIdle, Waits, next_word_of, with_word_sent, with_answer_first, given_up}
use Rattle.a429_link.specs.Sink.{Quiet, Listens, Owes, IsAck, MayAnswerForm, takes_first, answers_word}
use Rattle.a429_link.specs.State.{State, IsNonEmpty, rest}

-- where a step may be made
abbrev pub Can : Contents → Step → State → Type 0
-- an idle source without a link data unit, whose file has room for one more
Can p (Load u) s = IsIdle s.source.phase × (s.source.current ≡ None) × (s.source.number.ldu ≤ p.codes.first_ldu + 254) × IsLdu p u
-- the source's next word, on bus A
Can p (Sent i) s = (i.bus ≡ bus.A) × (next_word_of p s.source ≡ Some i.word)
-- the source has a next word
Can p SentLost s = IsSome (next_word_of p s.source)
-- the source waits, nothing is on its way, and the sink owes nothing
Can p TimeOut s = Waits s.source.phase × (s.to_sink ≡ []) × (s.to_source ≡ []) × Listens s.sink.phase
-- an answer is on its way
Can p TakeAnswer s = IsNonEmpty s.to_source
Can p LoseAnswer s = IsNonEmpty s.to_source
-- a word is on its way, and the sink owes nothing
Can p SinkTakes s = IsNonEmpty s.to_sink × Listens s.sink.phase
-- the sink owes an answer
Can p Silent s = Owes s.sink.phase
-- an answer that the sink owes, on bus B
Can p (Answered i) s = (i.bus ≡ bus.B) × MayAnswerForm s.sink.count s.sink.phase (form_of p.codes bus.B i.word)
-- a free word, on either bus, at any time
Can p (FreeSeen i) s = is_free p.codes i.bus i.word ≡ true
-- an idle source, with or without a link data unit, that has given up at most 126 files since its last acknowledgement
Can p GiveUp s = IsIdle s.source.phase × (s.source.give_ups ≤ 126)

-- the state that a step leads to
abbrev pub after : Contents → Step → State → State
-- the link data unit is current
after p (Load u) s = record s { source = record (s.source) { current = Some u } }
-- the source goes on, and the word is on its way
after p (Sent i) s = record s { source = with_word_sent s.source; to_sink = s.to_sink ++ i.word ∷ [] }
-- the source goes on
after p SentLost s = record s { source = with_word_sent s.source }
-- the source is idle, and keeps its link data unit
after p TimeOut s = record s { source = record (s.source) { phase = Idle } }
-- the source has heard the first answer
after p TakeAnswer s = record s { source = with_answer_first p.codes s.to_source s.source; to_source = rest s.to_source }
-- the first answer is gone
after p LoseAnswer s = record s { to_source = rest s.to_source }
-- the sink has taken the first word
after p SinkTakes s = record s { sink = takes_first p s.to_sink s.sink; to_sink = rest s.to_sink }
-- the sink owes nothing
after p Silent s = record s { sink = record (s.sink) { phase = Quiet } }
-- the sink has answered, and it is on its way
after p (Answered i) s = record s { sink = answers_word p.codes i.word s.sink; to_source = s.to_source ++ i.word ∷ [] }
-- nothing changes
after p (FreeSeen i) s = s
-- the source has given its file up
after p GiveUp s = record s { source = given_up p.codes s.source }

-- what a step records
abbrev pub label : Step → Option Seen
label (Sent i) = Some i
label (Answered i) = Some i
label (FreeSeen i) = Some i
label _ = None

-- a step of this name may be made, perhaps with another word
abbrev pub IsNamedStep : Contents → Step → State → Type 0
IsNamedStep p (Sent i) s = (j : Seen) × Can p (Sent j) s
IsNamedStep p (Answered i) s = (j : Seen) × Can p (Answered j) s
IsNamedStep p (FreeSeen i) s = (j : Seen) × Can p (FreeSeen j) s
IsNamedStep p a s = Can p a s

-- what is loaded is a link data unit of the profile
abbrev pub LoadsLdu : Contents → Step → Type 0
LoadsLdu p (Load u) = IsLdu p u
LoadsLdu p _ = Unit {0}

-- steps that may want memory: an acknowledgement, by which a file grows
abbrev pub Grows : Contents → Step → Type 0
Grows p (Answered i) = IsAck (form_of p.codes bus.B i.word)
Grows p _ = ⊥

-- why a step is refused: there is none of its name here; there is one, but not with this word; or it may be
-- made, and there is no memory
abbrev pub IsFault : Contents → Step → State → StepFault → Type 0
IsFault p a s fault.NotAllowed = ¬ IsNamedStep p a s
IsFault p a s fault.WordDiffers = IsNamedStep p a s × (¬ Can p a s)
IsFault p a s fault.OutOfMemory = Can p a s × Grows p a
