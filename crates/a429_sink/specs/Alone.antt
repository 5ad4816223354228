-- The sink of a file transfer by itself, whatever its source sends (ARINC 429 Part 3; that it takes each word when it is recorded:
-- profile).
use Rattle.std.specs.Prelude.{ℕ, ◌≡◌, ◌⊎◌, true, List, [], ◌∷◌, Option, Some, None, slice_get, take}
use Rattle.a429_word.specs.declared.bus.Bus.{Bus}
use Rattle.a429_word.specs.declared.bus.Bus.TheVariants as bus
use Rattle.a429_profile.specs.Profile.{Contents}
use Rattle.a429_ldu.specs.Form.{form_of, is_free}
use Rattle.a429_link.specs.declared.file.FileBytes.{FileBytes}
use Rattle.a429_link.specs.declared.seen.Seen.{Seen}
use Rattle.a429_link.specs.Run.{with_label}
use Rattle.a429_link.specs.Sink.{Quiet, Sink, MayAnswerForm, Owes, answers_word, in_phase, takes_word}
use Rattle.a429_link.specs.Trace.{sink_after, sink_at_first, sink_sees}

-- ---- its steps

-- what a sink by itself may do, with the word that is recorded
pub data SinkStep : Type 0 where
  -- a word of bus A is recorded, whatever it is, and taken at once
  Received : (word : ℕ) → SinkStep
  -- the answer that is owed is left out; nothing is recorded
  KeptSilent : SinkStep
  -- an answer that is owed is given
  Gave : (word : ℕ) → SinkStep
  -- a free word is recorded on bus B
  Passed : (word : ℕ) → SinkStep

-- where a step may be made: the conditions that a link has for its sink, and none on the words that come
abbrev pub SinkCan : Contents → SinkStep → Sink → Type 0
SinkCan p (Received w) k = Unit {0}
SinkCan p KeptSilent k = Owes k.phase
SinkCan p (Gave w) k = MayAnswerForm k.count k.phase (form_of p.codes bus.B w)
SinkCan p (Passed w) k = is_free p.codes bus.B w ≡ true

-- the sink that a step leads to
abbrev pub sink_next : Contents → SinkStep → Sink → Sink
sink_next p (Received w) k = takes_word p w k
sink_next p KeptSilent k = in_phase Quiet k
sink_next p (Gave w) k = answers_word p.codes w k
sink_next p (Passed w) k = k

-- this word, recorded on this bus
abbrev pub on_bus : Bus → ℕ → Option Seen
on_bus b w = Some (record { bus = b; word = w })

-- what a step records
abbrev pub sink_label : SinkStep → Option Seen
sink_label (Received w) = on_bus bus.A w
sink_label KeptSilent = None
sink_label (Gave w) = on_bus bus.B w
sink_label (Passed w) = on_bus bus.B w

-- each step may be made after those before it
abbrev pub IsSinkRun : Contents → List SinkStep → Sink → Type 0
IsSinkRun p [] k = Unit {0}
IsSinkRun p (a ∷ steps) k = SinkCan p a k × IsSinkRun p steps (sink_next p a k)

-- where the steps lead
abbrev pub sink_end : Contents → List SinkStep → Sink → Sink
sink_end p [] k = k
sink_end p (a ∷ steps) k = sink_end p steps (sink_next p a k)

-- what they record
abbrev pub sink_trace : List SinkStep → List Seen
sink_trace [] = []
sink_trace (a ∷ steps) = with_label (sink_label a) (sink_trace steps)

-- some run that begins with this sink records exactly these words: those on A come, those on B it sends
pub record SinkKeepsFrom (p : Contents) (k : Sink) (items : List Seen) : Type 0 where
  pub steps : List SinkStep
  pub run : IsSinkRun p steps k
  pub records : sink_trace steps ≡ items

-- the same from the start
abbrev pub SinkKeeps : Contents → List Seen → Type 0
SinkKeeps p items = SinkKeepsFrom p sink_at_first items

-- ---- which words a sink may have sent

-- on A any word may come; on B a free word, or an answer that the sink may give
abbrev pub SinkAllowsOn : Contents → Sink → Bus → ℕ → Type 0
SinkAllowsOn p k bus.A w = Unit {0}
SinkAllowsOn p k bus.B w = (is_free p.codes bus.B w ≡ true) ⊎ MayAnswerForm k.count k.phase (form_of p.codes bus.B w)

-- the same of a recorded word, on its bus
abbrev pub SinkAllows : Contents → Sink → Seen → Type 0
SinkAllows p k i = SinkAllowsOn p k i.bus i.word

-- each of these words is allowed after those before it
abbrev pub AreSinkAllowed : Contents → Sink → List Seen → Type 0
AreSinkAllowed p k [] = Unit {0}
AreSinkAllowed p k (i ∷ items) = SinkAllows p k i × AreSinkAllowed p (sink_sees p i.bus i.word k) items

-- a word, if there is one, is allowed
abbrev pub SinkAllowsNext : Contents → Sink → Option Seen → Type 0
SinkAllowsNext p k None = Unit {0}
SinkAllowsNext p k (Some i) = SinkAllows p k i

-- item i is there, and is not allowed after the items before it
abbrev pub IsSinkRefused : Contents → List Seen → ℕ → Type 0
IsSinkRefused p items i = SinkAllowsNext p (sink_after p (take i items) sink_at_first) (slice_get items i) → ⊥

-- the files that a run of the sink by itself delivers
abbrev pub sink_delivers : Contents → List SinkStep → List FileBytes
sink_delivers p steps = (sink_end p steps sink_at_first).received.files
