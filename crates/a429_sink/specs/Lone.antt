-- What is kept of a sink by itself: no block that has more data words than were asked for, and no files that have crossed (profile).
use Rattle.std.specs.Prelude.{ℕ, ◌≡◌, ◌+◌, ◌≤◌, nat_lt, Bool, true, false, if◌then◌else◌, List, [], ◌∷◌, length, Option, Some, None}
use Rattle.a429_word.specs.declared.bus.Bus.{Bus}
use Rattle.a429_word.specs.declared.bus.Bus.TheVariants as bus
use Rattle.a429_profile.specs.Profile.{Contents}
use Rattle.a429_ldu.specs.declared.forms.Form.{Form}
use Rattle.a429_ldu.specs.Form.{form_of}
use Rattle.a429_link.specs.declared.seen.Seen.{Seen}
use Rattle.a429_link.specs.declared.doing.Crossing.{Crossing}
use Rattle.a429_link.specs.declared.doing.Doing.{Doing}
use Rattle.a429_link.specs.declared.doing.Doing.TheVariants as doing
use Rattle.a429_link.specs.Sink.{Sink, SinkPhase, Granted, InBlock, IsAck, MayAnswer, in_phase, without_files}
use Rattle.a429_link.specs.Implied.{Implied, does, sink_sees_form}
use Rattle.a429_sink.specs.Alone.{SinkAllowsOn}
use Rattle.a429_sink.specs.declared.fault.SinkFault.{SinkFault}
use Rattle.a429_sink.specs.declared.fault.SinkFault.TheVariants as fault

-- a block that has more data words than were asked for is not good, whatever comes: it is left out, as if its start word had not come
abbrev pub capped_in : ℕ → SinkPhase → SinkPhase
capped_in count (InBlock b) = if nat_lt count (length b.words + 2) then Granted else InBlock b
capped_in count phase = phase

-- the sink without such a block
abbrev pub capped : Sink → Sink
capped k = in_phase (capped_in k.count k.phase) k

-- what is kept after a word of this form, or of none
abbrev pub keeps_form : Contents → Bus → ℕ → Option Form → Sink → Sink
keeps_form p b word x k = without_files (capped (sink_sees_form p b word x k))

-- what is kept after one more recorded word
abbrev pub keeps : Contents → Seen → Sink → Sink
keeps p i k = keeps_form p i.bus i.word (form_of p.codes i.bus i.word) k

-- what is kept after several recorded words
abbrev pub kept : Contents → List Seen → Sink → Sink
kept p [] k = k
kept p (i ∷ items) k = kept p items (keeps p i k)

-- where a block is kept, its start word and its data words were counted, and no others; where the sink waits for one, none were
abbrev pub IsCountedIn : ℕ → Bool → ℕ → SinkPhase → Type 0
IsCountedIn count begun parts Granted = (begun ≡ false) × (parts ≡ 0)
IsCountedIn count begun parts (InBlock b) = (begun ≡ true) × (parts ≡ length b.words) × (length b.words + 2 ≤ count)
IsCountedIn count begun parts phase = Unit {0}

abbrev pub IsCounted : Implied → Type 0
IsCounted i = IsCountedIn i.sink.count i.begun i.parts i.sink.phase

-- the sink has left its block, if it was in one, and waits for a start word
abbrev pub granted_anew : Implied → Implied
granted_anew i = record { sink = without_files (in_phase Granted i.sink); begun = false; parts = 0 }

-- it is in a block
abbrev pub IsInBlock : SinkPhase → Type 0
IsInBlock (InBlock b) = Unit {0}
IsInBlock phase = ⊥

-- ---- what it answers

-- the file that crosses by what a sink does
abbrev pub crossing_by : Doing → Option Crossing
crossing_by (doing.Accepts file ldu crossing) = crossing
crossing_by _ = None

-- the file that crosses by a word of this form
abbrev pub crosses_form : Contents → Bus → Option Form → Sink → Option Crossing
crosses_form p bus.B (Some x) k = crossing_by (does p bus.B 0 x k)
crosses_form p _ _ k = None

-- the file that crosses by a recorded word
abbrev pub crosses : Contents → Seen → Sink → Option Crossing
crosses p i k = crosses_form p i.bus (form_of p.codes i.bus i.word) k

-- as a list
abbrev pub listed : Option Crossing → List Crossing
listed None = []
listed (Some crossing) = crossing ∷ []

-- a word is refused where no sink sends it; memory may be refused at an acknowledgement that the sink owes
abbrev pub IsFaultOf : Sink → Form → SinkFault → Type 0
IsFaultOf k x fault.Refused = MayAnswer k.count k.phase x → ⊥
IsFaultOf k x fault.OutOfMemory = MayAnswer k.count k.phase x × IsAck (Some x)

abbrev pub IsFaultOn : Contents → Sink → Bus → ℕ → SinkFault → Type 0
IsFaultOn p k b w fault.Refused = SinkAllowsOn p k b w → ⊥
IsFaultOn p k b w fault.OutOfMemory = SinkAllowsOn p k b w × IsAck (form_of p.codes b w)

-- why a recorded word is not taken
abbrev pub IsSinkFault : Contents → Sink → Seen → SinkFault → Type 0
IsSinkFault p k i f = IsFaultOn p k i.bus i.word f
