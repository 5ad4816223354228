-- What a recording so far says of its sink by itself, and where it stops (profile).
use Rattle.std.specs.Prelude.{ℕ, ◌≡◌, ◌⊎◌, List, [], ◌∷◌, ◌++◌, length, Option, Some, None, slice_get, take}
use Rattle.a429_profile.specs.Profile.{Contents}
use Rattle.a429_ldu.specs.declared.forms.Form.{Form}
use Rattle.a429_ldu.specs.Form.{form_of}
use Rattle.a429_link.specs.declared.seen.Seen.{Seen}
use Rattle.a429_link.specs.Implied.{sizes_of}
use Rattle.a429_link.specs.Sink.{IsAck}
use Rattle.a429_link.specs.Trace.{files_of, sink_after, sink_at_first}
use Rattle.a429_sink.specs.Alone.{AreSinkAllowed, IsSinkRefused}
use Rattle.a429_sink.specs.Lone.{kept}
use Rattle.a429_sink.specs.Owed.{IsLastRequest, IsOwed, IsOwedBefore, IsRequest, owed_by}
use Rattle.a429_sink.specs.declared.owed.Owed.{Owed}
use Rattle.a429_sink.specs.declared.lone_trace.LoneStop.{LoneStop}
use Rattle.a429_sink.specs.declared.lone_trace.LoneStop.TheVariants as stop
use Rattle.a429_sink.specs.declared.lone_trace.LoneTrace.{LoneTrace}
use Rattle.a429_sink.specs.declared.lone_trace.Refusal.{Refusal}
use Rattle.a429_sink.specs.declared.lone_trace.Request.{Request}

-- the last request among these items, and what the sink owed when it came; or there is none
abbrev pub IsLastAsked : Contents → List Seen → Option Request → Type 0
IsLastAsked p items None = (m : ℕ) → IsRequest p (slice_get items m) → ⊥
IsLastAsked p items (Some r) = IsLastRequest p items r.entry × (r.owed ≡ owed_by (sink_after p (take r.entry items) sink_at_first))

-- the trace of these items, each of which is allowed after those before it
pub record IsLoneTrace (p : Contents) (items : List Seen) (t : LoneTrace) : Type 0 where
  pub entries : t.entries ≡ length items
  pub allowed : AreSinkAllowed p sink_at_first items
  pub sink : t.sink ≡ kept p items sink_at_first
  pub files : t.files.items ≡ sizes_of (files_of p items)
  pub request : IsLastAsked p items t.request

-- ---- where it stops

-- the request before which item i was owed, or there is none
abbrev pub IsOwedBeforeAny : Contents → List Seen → ℕ → Option ℕ → Type 0
IsOwedBeforeAny p items i None = (j : ℕ) → IsOwedBefore p items i j → ⊥
IsOwedBeforeAny p items i (Some j) = IsOwedBefore p items i j

-- the first item that is refused; whether it was owed before the last request; and what the sink owes in its place
pub record IsRefusal (p : Contents) (items : List Seen) (r : Refusal) : Type 0 where
  pub before : AreSinkAllowed p sink_at_first (take r.entry items)
  pub refused : IsSinkRefused p items r.entry
  pub owed_before : IsOwedBeforeAny p items r.entry r.owed_before
  pub owed : r.owed ≡ owed_by (sink_after p (take r.entry items) sink_at_first)

-- after these items the next one is refused; or it is an acknowledgement, and there is no memory
abbrev pub IsLoneStop : Contents → List Seen → Seen → LoneStop → Type 0
IsLoneStop p items i (stop.Refused r) = IsRefusal p (items ++ i ∷ []) r × (r.entry ≡ length items)
IsLoneStop p items i stop.OutOfMemory = IsAck (form_of p.codes i.bus i.word)

-- ---- what the code remembers of the last request

-- after a word it is the new one, if the word is a request, else the old one
abbrev pub IsLater : Type 0 → Option Request → Request → Option Request → Type 0
IsLater Asks old new last = (Asks × (last ≡ Some new)) ⊎ ((Asks → ⊥) × (last ≡ old))

-- an answer of this form, or of none, was owed
abbrev pub IsOwedForm : Owed → Option Form → Type 0
IsOwedForm o None = ⊥
IsOwedForm o (Some x) = IsOwed o x

-- the number of the last request, where a word of this form was owed when it came
abbrev pub WasOwed : Option Request → Option Form → Option ℕ → Type 0
WasOwed None x None = Unit {0}
WasOwed None x (Some j) = ⊥
WasOwed (Some r) x None = IsOwedForm r.owed x → ⊥
WasOwed (Some r) x (Some j) = (j ≡ r.entry) × IsOwedForm r.owed x
