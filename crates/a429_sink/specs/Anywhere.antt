-- A recording that begins anywhere: the last words of a run's trace (profile).
use Rattle.std.specs.Prelude.{ℕ, ◌≡◌, ◌⊎◌, ◌==◌, ◌+◌, ◌&&◌, suc, Bool, false, true, if◌then◌else◌, List, [], ◌∷◌, ◌++◌, length, slice_get, take, Option, Some, None, IsSome}
use Rattle.a429_word.specs.declared.bus.Bus.{Bus}
use Rattle.a429_word.specs.declared.bus.Bus.TheVariants as bus
use Rattle.a429_profile.specs.declared.codes.Codes.{Codes}
use Rattle.a429_profile.specs.Profile.{Contents}
use Rattle.a429_ldu.specs.Carried.{bytes_in}
use Rattle.a429_ldu.specs.declared.forms.Form.{Form}
use Rattle.a429_ldu.specs.declared.forms.Form.TheVariants.{Rts, Cts, Ack, Nak, Sot, Part, Eot}
use Rattle.a429_ldu.specs.Form.{form_of, is_free}
use Rattle.a429_ldu.specs.Ldu.{is_final}
use Rattle.a429_link.specs.declared.file.FileBytes.{FileBytes}
use Rattle.a429_link.specs.declared.number.UnitNumber.{UnitNumber}
use Rattle.a429_link.specs.declared.seen.Seen.{Seen}
use Rattle.a429_link.specs.Number.{is_number}
use Rattle.a429_link.specs.Run.{RunOf, trace}
use Rattle.a429_link.specs.Sink.{Block, Number, SinkPhase, Quiet, OwesClear, Granted, InBlock, OwesAck, OwesNak, is_good, at_part, at_start, empty_block, number_of}
use Rattle.a429_link.specs.Observer.{AllowsForm, Observer, at_first}
use Rattle.a429_link.specs.WholeBlock.{ComesNext, EndsBad, makes_unit}
use Rattle.a429_link.specs.Attempt.{asks}

-- these are the last words that the run records
pub record EndsWith {p : Contents} (r : RunOf p) (items : List Seen) : Type 0 where
  pub before : List Seen
  pub records : trace r.steps ≡ before ++ items

-- ---- what is known of the sink

pub record Known : Type 0 where
  -- its block: quiet where none is known; where an acknowledgement is owed, it may be a negative answer
  pub phase : SinkPhase
  -- the number of the unit acknowledged last, if it is known
  pub last : Option UnitNumber
  -- the bytes of the file under way, if all are known
  pub bytes : Option (List ℕ)
  -- the files that have crossed, here or before
  pub files : List FileBytes

-- nothing is known
abbrev pub unknown : Known
unknown = record { phase = Quiet; last = None; bytes = None; files = [] }

-- the same in this phase
abbrev pub known_in : SinkPhase → Known → Known
known_in phase t = record t { phase = phase }

-- an end word ends a block, or the grant without one; whether it is good, the answer says
abbrev pub ends_block : ℕ → SinkPhase → SinkPhase
ends_block flags Granted = Quiet
ends_block flags (InBlock b) = OwesAck b flags
ends_block flags phase = phase

-- the number is known to be this one
abbrev pub is_known : Option UnitNumber → UnitNumber → Bool
is_known None n = false
is_known (Some m) n = is_number m n

-- the number is known to be one of this file
abbrev pub is_known_file : Option UnitNumber → ℕ → Bool
is_known_file None file = false
is_known_file (Some m) file = m.file == file

-- these bytes after the earlier ones, if those are known
abbrev pub more_bytes : List ℕ → Option (List ℕ) → Option (List ℕ)
more_bytes bytes None = None
more_bytes bytes (Some earlier) = Some (earlier ++ bytes)

-- the bytes of a file with those of one more unit: the first one begins it
abbrev pub bytes_with : Codes → UnitNumber → List ℕ → Known → Option (List ℕ)
bytes_with c n bytes t = if n.ldu == c.first_ldu then Some bytes else (if is_known_file t.last n.file then more_bytes bytes t.bytes else None)

-- the files with one more, if all its bytes are known
abbrev pub with_file : ℕ → Option (List ℕ) → List FileBytes → List FileBytes
with_file file None files = files
with_file file (Some bytes) files = files ++ record { number = file; bytes = bytes } ∷ []

-- a unit is accepted, the last of its file or not; the bytes are those of its file so far
abbrev pub closes : Bool → UnitNumber → Option (List ℕ) → Known → Known
closes true n bytes t = record { phase = Quiet; last = Some n; bytes = None; files = with_file n.file bytes t.files }
closes false n bytes t = record { phase = Quiet; last = Some n; bytes = bytes; files = t.files }

-- an acknowledged block: one that comes again changes nothing
abbrev pub joins : Codes → Block → ℕ → Known → Known
joins c b flags t = if is_known t.last (number_of b) then known_in Quiet t else closes (is_final c flags) (number_of b) (bytes_with c (number_of b) (bytes_in c b.words) t) t

-- a block that is not known is acknowledged only before the first request and the first clear answer
abbrev pub acknowledges : Codes → SinkPhase → Known → Known
acknowledges c (OwesAck b flags) t = joins c b flags t
acknowledges c phase t = unknown

-- what is known after a word of this form
abbrev pub learns_form : Contents → Bus → ℕ → Option Form → Known → Known
learns_form p bus.A w (Some (Rts n)) t = known_in Quiet t
learns_form p bus.A w (Some (Sot gfi file ldu)) t = known_in (at_start (empty_block gfi file ldu) t.phase) t
learns_form p bus.A w (Some (Part semis)) t = known_in (at_part w t.phase) t
learns_form p bus.A w (Some (Eot flags check)) t = known_in (ends_block flags t.phase) t
learns_form p bus.B w (Some (Cts n)) t = known_in Granted t
learns_form p bus.B w (Some (Ack file ldu)) t = acknowledges p.codes t.phase t
learns_form p bus.B w (Some (Nak bits)) t = known_in Quiet t
learns_form p _ w _ t = t

abbrev pub learns : Contents → Seen → Known → Known
learns p i t = learns_form p i.bus i.word (form_of p.codes i.bus i.word) t

abbrev pub learned : Contents → List Seen → Known → Known
learned p [] t = t
learned p (i ∷ items) t = learned p items (learns p i t)

-- the files of which these words say that they have crossed by their end, here or before, wherever they begin
abbrev pub sure_files : Contents → List Seen → List FileBytes
sure_files p items = (learned p items unknown).files

-- the first files are the last of the second
abbrev pub AreLastOf : List FileBytes → List FileBytes → Type 0
AreLastOf xs all = (earlier : List FileBytes) × (all ≡ earlier ++ xs)

-- ---- which words no run records, wherever the recording begins

-- an observer whose phase and unit accepted last are not known at first
pub record Glimpse : Type 0 where
  -- a request or a clear answer has been recorded, so that the phase is known
  pub known : Bool
  -- `last` is none where it is not known
  pub observer : Observer

abbrev pub glimpse_at_first : Glimpse
glimpse_at_first = record { known = false; observer = at_first }

-- the block is good; where the number accepted last is not known, its own number is not looked at
abbrev pub may_be_good : Contents → Option Number → ℕ → Block → ℕ → Bool
may_be_good p None count b check = (length b.words + 2 == count) && makes_unit p b check
may_be_good p (Some l) count b check = is_good p (Some l) count b check

-- an end word ends a block, or the grant without one
abbrev pub at_end_glimpsed : Contents → Option Number → ℕ → ℕ → ℕ → SinkPhase → SinkPhase
at_end_glimpsed p last count flags check Granted = OwesNak
at_end_glimpsed p last count flags check (InBlock b) = if may_be_good p last count b check then OwesAck b flags else OwesNak
at_end_glimpsed p last count flags check phase = phase

-- the number that is acknowledged
abbrev pub acked_in : Codes → SinkPhase → Option Number → Option Number
acked_in c (OwesAck b flags) last = Some (record { number = number_of b; final = is_final c flags })
acked_in c phase last = last

-- after a word of this form, where the phase is known
abbrev pub glimpses_known : Contents → Bus → ℕ → Option Form → Observer → Observer
glimpses_known p bus.A w (Some (Sot gfi file ldu)) o = record o { phase = at_start (empty_block gfi file ldu) o.phase; begun = true }
glimpses_known p bus.A w (Some (Part semis)) o = record o { phase = at_part w o.phase; begun = true; parts = suc o.parts }
glimpses_known p bus.A w (Some (Eot flags check)) o = record o { phase = at_end_glimpsed p o.last o.count flags check o.phase }
glimpses_known p bus.B w (Some (Ack file ldu)) o = record o { phase = Quiet; last = acked_in p.codes o.phase o.last }
glimpses_known p bus.B w (Some (Nak bits)) o = record o { phase = Quiet }
glimpses_known p _ w _ o = o

-- after a word of this form: with a request or a clear answer the phase is known
abbrev pub glimpses_form : Contents → Bus → ℕ → Option Form → Glimpse → Glimpse
glimpses_form p bus.A w (Some (Rts n)) g = record { known = true; observer = record (g.observer) { count = n; phase = OwesClear } }
glimpses_form p bus.B w (Some (Cts n)) g = record { known = true; observer = record (g.observer) { count = n; phase = Granted; begun = false; parts = 0 } }
glimpses_form p b w x g = if g.known then record g { observer = glimpses_known p b w x g.observer } else g

abbrev pub glimpses : Contents → Seen → Glimpse → Glimpse
glimpses p i g = glimpses_form p i.bus i.word (form_of p.codes i.bus i.word) g

abbrev pub glimpsed : Contents → List Seen → Glimpse → Glimpse
glimpsed p [] g = g
glimpsed p (i ∷ items) g = glimpsed p items (glimpses p i g)

-- where nothing is known, a word of any form; else one that the observer allows
abbrev pub GlimpseAllowsForm : Bool → Observer → Bus → Option Form → Type 0
GlimpseAllowsForm known o b None = ⊥
GlimpseAllowsForm false o b (Some x) = Unit {0}
GlimpseAllowsForm true o b (Some x) = AllowsForm o b (Some x)

abbrev pub GlimpseAllows : Contents → Glimpse → Seen → Type 0
GlimpseAllows p g i = (is_free p.codes i.bus i.word ≡ true) ⊎ GlimpseAllowsForm g.known g.observer i.bus (form_of p.codes i.bus i.word)

-- a word, if there is one, is allowed
abbrev pub GlimpseAllowsNext : Contents → Glimpse → Option Seen → Type 0
GlimpseAllowsNext p g None = Unit {0}
GlimpseAllowsNext p g (Some i) = GlimpseAllows p g i

-- item i is there, and is not allowed after the items before it, whatever was before them
abbrev pub IsRefusedAnywhere : Contents → List Seen → ℕ → Type 0
IsRefusedAnywhere p items i = GlimpseAllowsNext p (glimpsed p (take i items) glimpse_at_first) (slice_get items i) → ⊥

-- ---- attempts, wherever the recording begins

-- a request to send is among these words
abbrev pub HasRequest : Contents → List Seen → Type 0
HasRequest p [] = ⊥
HasRequest p (i ∷ items) = IsSome (asks i.bus (form_of p.codes i.bus i.word)) ⊎ HasRequest p items

-- ---- blocks and numbers, wherever the recording begins

-- a whole block ends here under a clear answer that is recorded, and makes no link data unit; or a start word has a number that may
-- not come after the unit that is known to be accepted last
abbrev pub IsBadNext : Contents → Glimpse → Option Seen → Type 0
IsBadNext p g x = (g.known ≡ true) × (EndsBad p g.observer x ⊎ (IsSome g.observer.last × (ComesNext p g.observer x → ⊥)))

-- this item of a recording is such a word
abbrev pub IsBadAnywhere : Contents → List Seen → ℕ → Type 0
IsBadAnywhere p items i = IsBadNext p (glimpsed p (take i items) glimpse_at_first) (slice_get items i)
