-- The observer of a recording: a sink that takes each word of bus A, and sends each answer of bus B, at the
-- moment it is recorded (profile). It says what a recording allows next.
use Rattle.std.specs.Prelude.{ℕ, ◌≡◌, suc, ◌+◌, ◌<◌, ◌≤◌, Bool, true, false, ◌⊎◌, List, [], ◌∷◌, take, Option, Some, None, slice_get, length}
use Rattle.a429_word.specs.declared.bus.Bus.{Bus}
use Rattle.a429_word.specs.declared.bus.Bus.TheVariants as bus
use Rattle.a429_profile.specs.Profile.{Contents}
use Rattle.a429_ldu.specs.declared.forms.Form.{Form}
use Rattle.a429_ldu.specs.declared.forms.Form.TheVariants.{Rts, Cts, Sot, Part, Eot}
use Rattle.a429_ldu.specs.Form.{form_of, is_free}
use Rattle.a429_link.specs.declared.seen.Seen.{Seen}
use Rattle.a429_link.specs.Sink.{Sink, SinkPhase, Quiet, Granted, InBlock, Number, takes, answers, MayAnswer, kept_words, nothing_received}

pub record Observer : Type 0 where
  -- the sink without its files: the link data unit accepted last, the count of the last request, and the phase
  pub last : Option Number
  pub count : ℕ
  pub phase : SinkPhase
  -- whether a start or data word was recorded since the last clear answer, and how many data words
  pub begun : Bool
  pub parts : ℕ

abbrev pub at_first : Observer
at_first = record { last = None; count = 0; phase = Quiet; begun = false; parts = 0 }

abbrev pub sink_of : Observer → Sink
sink_of o = record { last = o.last; received = nothing_received; count = o.count; phase = o.phase }

abbrev pub watching : Sink → Bool → ℕ → Observer
watching k begun parts = record { last = k.last; count = k.count; phase = k.phase; begun = begun; parts = parts }

-- the observer after a word that has this form; a word without form changes nothing
abbrev pub sees_form : Contents → Bus → ℕ → Option Form → Observer → Observer
sees_form p b word None o = o
sees_form p bus.A word (Some (Sot gfi file ldu)) o = watching (takes p word (Sot gfi file ldu) (sink_of o)) true o.parts
sees_form p bus.A word (Some (Part semis)) o = watching (takes p word (Part semis) (sink_of o)) true (suc o.parts)
sees_form p bus.A word (Some x) o = watching (takes p word x (sink_of o)) o.begun o.parts
sees_form p bus.B word (Some (Cts n)) o = watching (answers p.codes (Cts n) (sink_of o)) false 0
sees_form p bus.B word (Some x) o = watching (answers p.codes x (sink_of o)) o.begun o.parts

abbrev pub sees : Contents → Seen → Observer → Observer
sees p i o = sees_form p i.bus i.word (form_of p.codes i.bus i.word) o

abbrev pub observed : Contents → List Seen → Observer → Observer
observed p [] o = o
observed p (i ∷ items) o = observed p items (sees p i o)

-- the sink takes the words of a block
abbrev pub HasGrant : SinkPhase → Type 0
HasGrant Granted = Unit {0}
HasGrant (InBlock b) = Unit {0}
HasGrant _ = ⊥

-- what was recorded so far allows a word of this form: a request always; the words of a block under a
-- grant, the start word first and the data words as many as were asked for; an answer that is owed
abbrev pub AllowsForm : Observer → Bus → Option Form → Type 0
AllowsForm o b None = ⊥
AllowsForm o bus.A (Some (Rts n)) = Unit {0}
AllowsForm o bus.A (Some (Sot gfi file ldu)) = HasGrant o.phase × (o.begun ≡ false)
AllowsForm o bus.A (Some (Part semis)) = HasGrant o.phase × (o.parts + 2 < o.count)
AllowsForm o bus.A (Some (Eot flags check)) = HasGrant o.phase
AllowsForm o bus.A (Some x) = ⊥
AllowsForm o bus.B (Some x) = MayAnswer o.count o.phase x

-- it allows this word: a free word always, and no other word without form
abbrev pub Allows : Contents → Observer → Seen → Type 0
Allows p o i = (is_free p.codes i.bus i.word ≡ true) ⊎ AllowsForm o i.bus (form_of p.codes i.bus i.word)

abbrev pub AllowsNext : Contents → Observer → Option Seen → Type 0
AllowsNext p o None = Unit {0}
AllowsNext p o (Some i) = Allows p o i

-- item i is not allowed after those before it
abbrev pub IsRefused : Contents → List Seen → ℕ → Type 0
IsRefused p items i = AllowsNext p (observed p (take i items) at_first) (slice_get items i) → ⊥

-- a block that is kept has at most as many data words as were recorded, and those are few
abbrev pub KeepsRecorded : SinkPhase → ℕ → Type 0
KeepsRecorded phase parts = (length (kept_words phase) ≤ parts) × (parts ≤ 253)

-- each of these items is allowed after those before it
abbrev pub AreAllowed : Contents → Observer → List Seen → Type 0
AreAllowed p o [] = Unit {0}
AreAllowed p o (i ∷ items) = Allows p o i × AreAllowed p (sees p i o) items
