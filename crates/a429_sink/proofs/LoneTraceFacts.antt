-- A recording so far, by its sink alone.
use Rattle.std.proofs.Common.{◌≡◌, ℕ, ◌+◌, List, [], ◌∷◌, ◌++◌, length, length-append, take, Option, Some, None, refl, sym, ap, ◌∙◌, subst, inl, inr, arith}
use Rattle.std.specs.Prelude.{IsSome}
use Rattle.std.proofs.Math.Seq.{take-append_seam}
use Rattle.a429_word.specs.declared.bus.Bus.{Bus}
use Rattle.a429_word.specs.declared.bus.Bus.TheVariants as bus
use Rattle.a429_profile.specs.Profile.{Contents}
use Rattle.a429_ldu.specs.Form.{form_of}
use Rattle.a429_ldu.specs.declared.forms.Form.{Form}
use Rattle.a429_ldu.specs.declared.forms.Form.TheVariants as form
use Rattle.a429_link.specs.declared.doing.Crossing.{Crossing}
use Rattle.a429_link.specs.declared.seen.Seen.{Seen}
use Rattle.a429_link.specs.declared.why.Why.{Why}
use Rattle.a429_link.specs.Implied.{doing_in, sink_sees_form, sizes_of, why_at}
use Rattle.a429_link.specs.Sink.{Granted, InBlock, IsAck, OwesAck, OwesClear, OwesNak, Quiet, Sink, SinkPhase}
use Rattle.a429_link.specs.Trace.{files_of, sink_after, sink_at_first}
use Rattle.a429_sink.specs.declared.lone_trace.LoneTrace.{LoneTrace}
use Rattle.a429_sink.specs.declared.lone_trace.Refusal.{Refusal}
use Rattle.a429_sink.specs.Alone.{AreSinkAllowed, SinkAllows}
use Rattle.a429_sink.specs.Lone.{crosses, crosses_form, crossing_by, keeps, kept, listed}
use Rattle.a429_sink.specs.declared.lone_trace.Request.{Request}
use Rattle.a429_sink.specs.LoneTrace.{IsLastAsked, IsLater, IsLoneTrace, IsRefusal, WasOwed}
use Rattle.a429_sink.specs.Owed.{IsRequest, owed_by}
use Rattle.a429_sink.proofs.LoneRuns.{all_crosses, kept_allows}
use Rattle.a429_sink.proofs.OwedFacts.{allowed_push, asked_more, asked_now, owed_before_any, owed_kept, refused_last}

kept_push : (p : Contents) (items : List Seen) (i : Seen) (k : Sink) → kept p (items ++ i ∷ []) k ≡ keeps p i (kept p items k)
kept_push p [] i k = refl
kept_push p (x ∷ items) i k = kept_push p items i (keeps p x k)

pub asked_after : (p : Contents) (items : List Seen) (i : Seen) (old : LoneTrace) (r : Request) (last : Option Request)
    → IsLoneTrace p items old
    → r.entry ≡ old.entries → r.owed ≡ owed_by old.sink → IsLater (IsRequest p (Some i)) old.request r last
    → IsLastAsked p (items ++ i ∷ []) last
asked_after p items i old r last t entry owed (inl (asks, e)) =
    subst (IsLastAsked p (items ++ i ∷ [])) (sym e)
    (asked_now p items i r asks (entry ∙ t.entries) (owed ∙ ap owed_by t.sink ∙ owed_kept p items))
asked_after p items i old r last t entry owed (inr (never, e)) =
    subst (IsLastAsked p (items ++ i ∷ [])) (sym e) (asked_more p items i old.request never t.request)

pub trace_more : (p : Contents) (items : List Seen) (i : Seen) (old new : LoneTrace) → IsLoneTrace p items old → SinkAllows p old.sink i
    → new.entries ≡ old.entries + 1 → new.sink ≡ keeps p i old.sink → new.files.items ≡ old.files.items ++ listed (crosses p i old.sink)
    → IsLastAsked p (items ++ i ∷ []) new.request → IsLoneTrace p (items ++ i ∷ []) new
trace_more p items i old new t allowed entries sink files request =
    let may : SinkAllows p (kept p items sink_at_first) i = subst (λ (k : Sink). SinkAllows p k i) t.sink allowed in
    let sum = length-append items (i ∷ []) in
    let before = t.entries in
    record {
      entries = omega arith;
      allowed = allowed_push p items i sink_at_first t.allowed ((kept_allows p items i).0 may);
      sink = sink ∙ ap (keeps p i) t.sink ∙ sym (kept_push p items i sink_at_first);
      files = files ∙ ap (λ (l : List Crossing). l ++ listed (crosses p i old.sink)) t.files
          ∙ ap (λ (k : Sink). sizes_of (files_of p items) ++ listed (crosses p i k)) t.sink ∙ sym (all_crosses p items i may);
      request = request;
    }

pub trace_stops : (p : Contents) (items : List Seen) (i : Seen) (t : LoneTrace) (r : Refusal)
    → IsLoneTrace p items t → (SinkAllows p t.sink i → ⊥) → r.entry ≡ t.entries
    → WasOwed t.request (form_of p.codes i.bus i.word) r.owed_before → r.owed ≡ owed_by t.sink
    → IsRefusal p (items ++ i ∷ []) r × (r.entry ≡ length items)
trace_stops p items i t r is refused entry was owed =
    let no : SinkAllows p (sink_after p items sink_at_first) i → ⊥ =
    λ a. refused (subst (λ (k : Sink). SinkAllows p k i) (sym is.sink) ((kept_allows p items i).1 a)) in
    let n : r.entry ≡ length items = entry ∙ is.entries in
    let here = sym (take-append_seam items (i ∷ [])) in (
      record {
        before =
            subst (λ (m : ℕ). AreSinkAllowed p sink_at_first (take m (items ++ i ∷ []))) (sym n)
            (subst (AreSinkAllowed p sink_at_first) here is.allowed);
        refused = rw n (refused_last p items i no);
        owed_before = rw n (owed_before_any p items i t.request r.owed_before no is.request was);
        owed = rw n (owed ∙ ap owed_by is.sink ∙ owed_kept p items ∙ ap (λ (l : List Seen). owed_by (sink_after p l sink_at_first)) here);
      },
      n,
    )

-- ---- a file crosses by an acknowledgement

crosses_by : (count : ℕ) (why : Option Why) (phase : SinkPhase) → crossing_by (doing_in count why phase) ≡ None
crosses_by count why Quiet = refl
crosses_by count why OwesClear = refl
crosses_by count why Granted = refl
crosses_by count why (InBlock b) = refl
crosses_by count why (OwesAck b flags) = refl
crosses_by count why OwesNak = refl

pub crossing_acked : (p : Contents) (k : Sink) (i : Seen) → IsSome (crosses p i k) → IsAck (form_of p.codes i.bus i.word)
crossing_acked p k i = by i.bus (form_of p.codes i.bus i.word)
  where
    after : Form → Sink
    after x = sink_sees_form p bus.B 0 (Some x) k

    never : (x : Form) → crossing_by (doing_in (after x).count (why_at p x k) (after x).phase) ≡ None
    never x = crosses_by (after x).count (why_at p x k) (after x).phase

    not_none : IsSome {T = Crossing} None → ⊥
    not_none h = cc h

    by : (b : Bus) (x : Option Form) → IsSome (crosses_form p b x k) → IsAck x
    by bus.A None h = absurd (not_none h)
    by bus.A (Some x) h = absurd (not_none h)
    by bus.B None h = absurd (not_none h)
    by bus.B (Some (form.Ack file ldu)) h = tt
    by bus.B (Some (form.Rts n)) h = absurd (not_none (subst IsSome (never (form.Rts n)) h))
    by bus.B (Some (form.Cts n)) h = absurd (not_none (subst IsSome (never (form.Cts n)) h))
    by bus.B (Some (form.Nak n)) h = absurd (not_none (subst IsSome (never (form.Nak n)) h))
    by bus.B (Some (form.Sot gfi file ldu)) h = absurd (not_none (subst IsSome (never (form.Sot gfi file ldu)) h))
    by bus.B (Some (form.Part semis)) h = absurd (not_none (subst IsSome (never (form.Part semis)) h))
    by bus.B (Some (form.Eot flags check)) h = absurd (not_none (subst IsSome (never (form.Eot flags check)) h))
