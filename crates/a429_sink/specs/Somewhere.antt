-- The sink of a file transfer by itself in a recording that begins anywhere: what it was before is not known (profile).
use Rattle.std.specs.Prelude.{ℕ, ◌≡◌, ◌⊎◌, Bool, false, true, if◌then◌else◌, List, [], ◌∷◌, Option, Some, None, slice_get, take}
use Rattle.a429_word.specs.declared.bus.Bus.{Bus}
use Rattle.a429_word.specs.declared.bus.Bus.TheVariants as bus
use Rattle.a429_profile.specs.declared.codes.Codes.{Codes}
use Rattle.a429_profile.specs.Profile.{Contents}
use Rattle.a429_ldu.specs.declared.forms.Form.{Form}
use Rattle.a429_ldu.specs.declared.forms.Form.TheVariants.{Rts, Cts, Ack, Nak, Sot, Part, Eot}
use Rattle.a429_ldu.specs.Form.{form_of, is_free}
use Rattle.a429_ldu.specs.Ldu.{is_final}
use Rattle.a429_link.specs.declared.seen.Seen.{Seen}
use Rattle.a429_link.specs.Number.{is_number}
use Rattle.a429_link.specs.Sink.{Number, SinkPhase, Quiet, OwesClear, Granted, OwesAck, MayAnswerForm, at_part, at_start, empty_block, number_of}
use Rattle.a429_sink.specs.Anywhere.{at_end_glimpsed}

-- some sink, of which not all is known
pub record SomeSink : Type 0 where
  -- a request or a clear answer has been recorded, so that the phase is known
  pub known : Bool
  pub count : ℕ
  -- where it owes an acknowledgement, the block is good by all that is known, and it may be a negative answer that is owed
  pub phase : SinkPhase
  -- none where the unit accepted last is not known; of the first one it is not known whether it ended its file
  pub last : Option Number

abbrev pub some_at_first : SomeSink
some_at_first = record { known = false; count = 0; phase = Quiet; last = None }

-- the unit accepted last, after an acknowledgement. The first one that is known may have come again, so its flags may not be those that
-- were accepted: it is taken as one that does not end its file, after which more may come
abbrev pub last_after : Codes → SinkPhase → Option Number → Option Number
last_after c (OwesAck b flags) None = Some (record { number = number_of b; final = false })
last_after c (OwesAck b flags) (Some l) = if is_number l.number (number_of b) then Some l else Some (record { number = number_of b; final = is_final c flags })
last_after c phase last = last

-- after a word of this form, where the phase is known
abbrev pub some_after : Contents → Bus → ℕ → Option Form → SomeSink → SomeSink
some_after p bus.A w (Some (Sot gfi file ldu)) s = record s { phase = at_start (empty_block gfi file ldu) s.phase }
some_after p bus.A w (Some (Part semis)) s = record s { phase = at_part w s.phase }
some_after p bus.A w (Some (Eot flags check)) s = record s { phase = at_end_glimpsed p s.last s.count flags check s.phase }
some_after p bus.B w (Some (Ack file ldu)) s = record s { phase = Quiet; last = last_after p.codes s.phase s.last }
some_after p bus.B w (Some (Nak bits)) s = record s { phase = Quiet }
some_after p _ w _ s = s

-- after a word of this form: with a request or a clear answer the phase is known
abbrev pub some_sees_form : Contents → Bus → ℕ → Option Form → SomeSink → SomeSink
some_sees_form p bus.A w (Some (Rts n)) s = record { known = true; count = n; phase = OwesClear; last = s.last }
some_sees_form p bus.B w (Some (Cts n)) s = record { known = true; count = n; phase = Granted; last = s.last }
some_sees_form p b w x s = if s.known then some_after p b w x s else s

abbrev pub some_sees : Contents → Seen → SomeSink → SomeSink
some_sees p i s = some_sees_form p i.bus i.word (form_of p.codes i.bus i.word) s

abbrev pub some_seen : Contents → List Seen → SomeSink → SomeSink
some_seen p [] s = s
some_seen p (i ∷ items) s = some_seen p items (some_sees p i s)

-- where nothing is known, an answer of any form; else one that the sink may give
abbrev pub SomeAnswer : Bool → SomeSink → Option Form → Type 0
SomeAnswer known s None = ⊥
SomeAnswer false s (Some x) = Unit {0}
SomeAnswer true s (Some x) = MayAnswerForm s.count s.phase (Some x)

-- on A any word may come; on B a free word or such an answer
abbrev pub SomeAllowsOn : Contents → SomeSink → Bus → ℕ → Type 0
SomeAllowsOn p s bus.A w = Unit {0}
SomeAllowsOn p s bus.B w = (is_free p.codes bus.B w ≡ true) ⊎ SomeAnswer s.known s (form_of p.codes bus.B w)

-- a word, if there is one, is allowed
abbrev pub SomeAllowsNext : Contents → SomeSink → Option Seen → Type 0
SomeAllowsNext p s None = Unit {0}
SomeAllowsNext p s (Some i) = SomeAllowsOn p s i.bus i.word

-- item i is there, and is not allowed after the items before it, whatever the sink was before them
abbrev pub IsRefusedBySinks : Contents → List Seen → ℕ → Type 0
IsRefusedBySinks p items i = SomeAllowsNext p (some_seen p (take i items) some_at_first) (slice_get items i) → ⊥
