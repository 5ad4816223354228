-- What is kept of a sink where the recording begins anywhere (profile).
use Rattle.std.specs.Prelude.{ℕ, ◌≡◌, ◌==◌, ◌&&◌, ◌++◌, Bool, true, false, if◌then◌else◌, List, [], Option, Some, None, option_map}
use Rattle.a429_word.specs.declared.bus.Bus.{Bus}
use Rattle.a429_word.specs.declared.bus.Bus.TheVariants as bus
use Rattle.a429_profile.specs.declared.codes.Codes.{Codes}
use Rattle.a429_profile.specs.Profile.{Contents}
use Rattle.a429_ldu.specs.declared.forms.Form.{Form}
use Rattle.a429_ldu.specs.declared.forms.Form.TheVariants.{Ack}
use Rattle.a429_ldu.specs.Form.{form_of}
use Rattle.a429_ldu.specs.Ldu.{is_final}
use Rattle.a429_link.specs.declared.file.FileBytes.{FileBytes}
use Rattle.a429_link.specs.declared.number.UnitNumber.{UnitNumber}
use Rattle.a429_link.specs.declared.seen.Seen.{Seen}
use Rattle.a429_link.specs.declared.sink.Latest.{Latest}
use Rattle.a429_link.specs.Implied.{observer_of}
use Rattle.a429_link.specs.Sink.{Granted, InBlock, IsAck, Number, OwesAck, SinkPhase, is_same, is_same_file, latest_number, number_of}
use Rattle.a429_sink.specs.declared.fault.SinkFault.{SinkFault}
use Rattle.a429_sink.specs.declared.fault.SinkFault.TheVariants as fault
use Rattle.a429_sink.specs.declared.glimpsed.Accepted.{Accepted}
use Rattle.a429_sink.specs.declared.glimpsed.GlimpsedSink.{GlimpsedSink}
use Rattle.a429_sink.specs.declared.glimpsed.UnitStep.{UnitStep}
use Rattle.a429_sink.specs.declared.glimpsed.UnitStep.TheVariants as step
use Rattle.a429_sink.specs.Anywhere.{Glimpse, GlimpseAllows, GlimpseAllowsForm, Known, is_known, learns_form, unknown}

-- ---- what the words so far allow

-- the glimpse that is kept
abbrev pub glimpse_of : GlimpsedSink → Glimpse
glimpse_of s = record { known = s.is_known; observer = record (observer_of s.implied) { last = option_map latest_number s.last } }

-- a word is refused where no run records it, whatever came before; memory may be refused at an acknowledgement
abbrev pub IsGlimpseFaultOf : Bool → Glimpse → Bus → Form → SinkFault → Type 0
IsGlimpseFaultOf known g b x fault.Refused = GlimpseAllowsForm known g.observer b (Some x) → ⊥
IsGlimpseFaultOf known g b x fault.OutOfMemory = GlimpseAllowsForm known g.observer b (Some x) × IsAck (Some x)

abbrev pub IsGlimpseFault : Contents → Glimpse → Seen → SinkFault → Type 0
IsGlimpseFault p g i fault.Refused = GlimpseAllows p g i → ⊥
IsGlimpseFault p g i fault.OutOfMemory = GlimpseAllows p g i × IsAck (form_of p.codes i.bus i.word)

-- ---- what is sure of them

-- the bytes of the file under way, if all are known
abbrev pub bytes_if : Bool → List ℕ → Option (List ℕ)
bytes_if true bytes = Some bytes
bytes_if false bytes = None

-- where a block is under way, or an acknowledgement may be owed for it, it is known as such
abbrev pub IsPhaseKnown : SinkPhase → SinkPhase → Type 0
IsPhaseKnown Granted known = known ≡ Granted
IsPhaseKnown (InBlock b) known = known ≡ InBlock b
IsPhaseKnown (OwesAck b flags) known = known ≡ OwesAck b flags
IsPhaseKnown phase known = Unit {0}

abbrev pub IsKnownIn : Bool → SinkPhase → Known → Type 0
IsKnownIn true phase k = IsPhaseKnown phase k.phase
IsKnownIn false phase k = k ≡ unknown

-- this is known of the sink, and its files have been handed out
pub record IsKnownOf (k : Known) (s : GlimpsedSink) : Type 0 where
  pub filed : s.implied.sink.received.files ≡ []
  pub phase : IsKnownIn s.is_known s.implied.sink.phase k
  pub last : k.last ≡ option_map (λ (n : Latest). n.number) s.last
  pub bytes : k.bytes ≡ bytes_if s.is_whole s.implied.sink.received.open_bytes

-- ---- what is accepted

-- the link data unit that is accepted by an acknowledgement in this phase: one that comes again is not
abbrev pub unit_in : Codes → SinkPhase → Option UnitNumber → Option Number
unit_in c (OwesAck b flags) last = if is_known last (number_of b) then None else Some (record { number = number_of b; final = is_final c flags })
unit_in c phase last = None

-- by a word of this form
abbrev pub unit_by : Codes → Bus → Option Form → Known → Option Number
unit_by c bus.B (Some (Ack file ldu)) k = unit_in c k.phase k.last
unit_by c _ _ k = None

-- the unit that is said to be accepted, and the files that are said to cross by it
abbrev pub unit_of : Option Accepted → Option Number
unit_of None = None
unit_of (Some a) = Some (latest_number a.unit)

abbrev pub files_with : Option Accepted → List FileBytes
files_with None = []
files_with (Some a) = a.files.items

-- with a word of this form the first of these becomes the second: what was known of the sink then gets that word, and the unit and the files are what
-- is said
pub record Follows (p : Contents) (b : Bus) (w : ℕ) (x : Option Form) (old new : GlimpsedSink) (said : Option Accepted) (k : Known) : Type 0 where
  pub known : IsKnownOf (learns_form p b w x k) new
  pub unit : unit_of said ≡ unit_by p.codes b x k
  pub files : (learns_form p b w x k).files ≡ k.files ++ files_with said

-- so it is whatever is known
abbrev pub FollowsForm : Contents → Bus → ℕ → Option Form → GlimpsedSink → GlimpsedSink → Option Accepted → Type 0
FollowsForm p b w x old new said = (k : Known) → IsKnownOf k old → Follows p b w x old new said k

abbrev pub FollowsWord : Contents → Seen → GlimpsedSink → GlimpsedSink → Option Accepted → Type 0
FollowsWord p i old new said = FollowsForm p i.bus i.word (form_of p.codes i.bus i.word) old new said

-- ---- what is assumed for an end word, and for an acknowledgement

-- where the unit accepted last is not known, a block is taken for one that comes again
abbrev pub assumed_at_end : Option Number → Option UnitNumber → Option Number
assumed_at_end (Some last) block = Some last
assumed_at_end None None = None
assumed_at_end None (Some n) = Some (record { number = n; final = false })

-- how the bytes of a unit come to those of its file, where all bytes of the file under way are known, or they are not
abbrev pub step_to : Codes → Bool → Option Number → UnitNumber → UnitStep
step_to c whole last n =
    if is_same last n then step.Again
    else if n.ldu == c.first_ldu then step.First
    else if whole && is_same_file last n.file then step.Next
    else step.Unknown

-- all bytes of the file are known with it
abbrev pub is_whole_with : UnitStep → Bool
is_whole_with step.First = true
is_whole_with step.Next = true
is_whole_with _ = false

-- a unit that comes again, and one of whose file not all bytes are known, brings no bytes; the first of a file begins it
abbrev pub assumed_for : Option Number → Number → UnitStep → Option Number
assumed_for last n step.First = None
assumed_for last n step.Next = last
assumed_for last n _ = Some n
