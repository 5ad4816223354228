-- What a sink by itself owes, and what it owed when the last request came (ARINC 429 Part 3; that a request takes the place of what is
-- owed: profile).
use Rattle.std.specs.Prelude.{ℕ, ◌≡◌, ◌<◌, List, [], ◌∷◌, Option, Some, None, IsSome, slice_get, take}
use Rattle.a429_profile.specs.Profile.{Contents}
use Rattle.a429_ldu.specs.declared.forms.Form.{Form}
use Rattle.a429_ldu.specs.declared.forms.Form.TheVariants.{Cts, Ack, Nak}
use Rattle.a429_ldu.specs.Form.{form_of}
use Rattle.a429_link.specs.declared.seen.Seen.{Seen}
use Rattle.a429_link.specs.Allowed.{Kind, CtsOf, AckOf, AnyNak}
use Rattle.a429_link.specs.Attempt.{asks}
use Rattle.a429_link.specs.Sink.{Sink, SinkPhase, OwesClear, OwesAck, OwesNak}
use Rattle.a429_link.specs.Trace.{sink_after, sink_at_first}
use Rattle.a429_sink.specs.Alone.{IsSinkRefused, SinkAllowsNext}
use Rattle.a429_sink.specs.declared.owed.Owed.{Owed}
use Rattle.a429_sink.specs.declared.owed.Owed.TheVariants as owed

-- ---- the answer that is owed

-- by its phase, where its last request had this count
abbrev pub owed_in : ℕ → SinkPhase → Owed
owed_in count OwesClear = owed.Clear count
owed_in count (OwesAck b flags) = owed.Ack b.file b.ldu
owed_in count OwesNak = owed.Nak
owed_in count phase = owed.Nothing

-- the answer that a sink owes
abbrev pub owed_by : Sink → Owed
owed_by k = owed_in k.count k.phase

-- an answer of this form is owed: the clear answer with that count; the acknowledgement with those numbers, or a negative answer in its
-- place; a negative answer with any bits
abbrev pub IsOwed : Owed → Form → Type 0
IsOwed (owed.Clear count) (Cts n) = n ≡ count
IsOwed (owed.Ack file ldu) (Ack f l) = (f ≡ file) × (l ≡ ldu)
IsOwed (owed.Ack file ldu) (Nak bits) = Unit {0}
IsOwed owed.Nak (Nak bits) = Unit {0}
IsOwed _ _ = ⊥

-- as kinds of words
abbrev pub kinds_owed : Owed → List Kind
kinds_owed owed.Nothing = []
kinds_owed (owed.Clear count) = CtsOf count ∷ []
kinds_owed (owed.Ack file ldu) = AckOf file ldu ∷ AnyNak ∷ []
kinds_owed owed.Nak = AnyNak ∷ []

-- ---- what was owed when the last request came

-- a word, if there is one, is a request
abbrev pub IsRequest : Contents → Option Seen → Type 0
IsRequest p None = ⊥
IsRequest p (Some i) = IsSome (asks i.bus (form_of p.codes i.bus i.word))

-- item j is the last request among these
abbrev pub IsLastRequest : Contents → List Seen → ℕ → Type 0
IsLastRequest p items j = IsRequest p (slice_get items j) × ((m : ℕ) → j < m → IsRequest p (slice_get items m) → ⊥)

-- item i is refused, and item j is the last request before it, just before which it was allowed: the sink owed that answer until then
abbrev pub IsOwedBefore : Contents → List Seen → ℕ → ℕ → Type 0
IsOwedBefore p items i j =
    IsSinkRefused p items i
    × IsLastRequest p (take i items) j
    × SinkAllowsNext p (sink_after p (take j items) sink_at_first) (slice_get items i)
