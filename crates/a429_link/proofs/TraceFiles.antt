-- The files of a recording.
use Rattle.std.proofs.Common.{◌≡◌, ℕ, ◌≤◌, List, [], ◌∷◌, ◌++◌, refl, sym, ap, ◌∙◌}
use Rattle.a429_profile.specs.Profile.{Contents}
use Rattle.a429_link.specs.declared.seen.Seen.{Seen}
use Rattle.a429_link.specs.declared.step.Step.{Step}
use Rattle.a429_link.specs.Run.{IsRun, delivered, trace}
use Rattle.a429_link.specs.Sink.{Sink, nothing_received, with_received}
use Rattle.a429_link.specs.State.{start}
use Rattle.a429_link.specs.Observer.{Observer, at_first, observed, sees, sink_of}
use Rattle.a429_link.specs.Trace.{files_of, sink_after, sink_at_first, sink_sees}
use Rattle.a429_link.proofs.Message.{IsRead, Message}
use Rattle.a429_link.proofs.SinkFromTrace.{delivered_from_trace}
use Rattle.a429_link.proofs.RunTraces.{see_item}
use Rattle.a429_link.proofs.ObserverRefuses.{seeing, sees_same}

pub files_delivered : (p : Contents) → IsRead p → (first : ℕ) → first ≤ 255 → (steps : List Step) → IsRun p steps (start p first)
    → (items : List Seen) → trace steps ≡ items → delivered p first steps ≡ files_of p items
files_delivered p good first l steps run items e = delivered_from_trace p good first l steps run ∙ ap (files_of p) e

observed_as : (p : Contents) (items : List Seen) (k : Sink) (seen : List Message) (o : Observer)
    → o ≡ seeing k seen → sink_of (observed p items o) ≡ with_received nothing_received (sink_after p items k)
observed_as p [] k seen o e = ap sink_of e
observed_as p (i ∷ items) k seen o e =
    observed_as p items (sink_sees p i.bus i.word k) (see_item p i seen) (sees p i o) (ap (sees p i) e ∙ sees_same p i k seen)

-- the observer is that sink without its files
pub observed_sink : (p : Contents) (items : List Seen)
    → sink_of (observed p items at_first) ≡ with_received nothing_received (sink_after p items sink_at_first)
observed_sink p items = observed_as p items sink_at_first [] at_first refl

pub after_push : (p : Contents) (items : List Seen) (i : Seen) (k : Sink)
    → sink_after p (items ++ i ∷ []) k ≡ sink_sees p i.bus i.word (sink_after p items k)
after_push p [] i k = refl
after_push p (x ∷ items) i k = after_push p items i (sink_sees p x.bus x.word k)

-- so it and what it received before a word tell what it received after it
pub next_received : (p : Contents) (items : List Seen) (i : Seen)
    → (sink_after p (items ++ i ∷ []) sink_at_first).received
    ≡ (sink_sees p i.bus i.word (with_received (sink_after p items sink_at_first).received (sink_of (observed p items at_first)))).received
next_received p items i =
    ap (λ (k : Sink). k.received) (after_push p items i sink_at_first)
    ∙ ap (λ (k : Sink). (sink_sees p i.bus i.word (with_received (sink_after p items sink_at_first).received k)).received)
    (sym (observed_sink p items))
