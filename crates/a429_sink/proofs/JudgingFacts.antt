-- The sink of a whole recording, as it is read.
use Rattle.std.proofs.Common.{◌≡◌, ◌+◌, ℕ, List, [], ◌∷◌, ◌++◌, length, take, Option, Some, None, IfSome, sym, ap, ◌∙◌, subst}
use Rattle.std.proofs.Math.Seq.{take-append_seam}
use Rattle.a429_profile.specs.Profile.{Contents, IsProfile}
use Rattle.a429_link.specs.declared.seen.Seen.{Seen}
use Rattle.a429_link.specs.Implied.{sizes_of}
use Rattle.a429_link.specs.Sink.{Sink}
use Rattle.a429_link.specs.Trace.{files_of, sink_after, sink_at_first, sink_sees}
use Rattle.a429_link.proofs.MessageRead.{is_read}
use Rattle.a429_record.specs.declared.entry.Entry.{Entry}
use Rattle.a429_cert.specs.Explained.{items_of, seen_of}
use Rattle.a429_record.specs.declared.fault.ReadFault.TheVariants as read
use Rattle.a429_record.specs.Recording.{Recording}
use Rattle.a429_record.specs.Rows.{Stops}
use Rattle.a429_cert.proofs.ItemsFacts.{items_push, length-items_of}
use Rattle.a429_parts.specs.Keeping.{BeginsWith, Taken, with_entries}
use Rattle.a429_parts.proofs.KeepingFacts.{Came}
use Rattle.a429_sink.specs.declared.lone_trace.LoneTrace.{LoneTrace}
use Rattle.a429_sink.specs.declared.lone_trace.Refusal.{Refusal}
use Rattle.a429_sink.specs.Alone.{AreSinkAllowed, IsSinkRefused, SinkAllows, SinkKeeps}
use Rattle.a429_sink.specs.Judging.{SinkNo, SinkYes, SeesWhole}
use Rattle.a429_sink.specs.LoneTrace.{IsLoneTrace, IsRefusal}
use Rattle.a429_sink.proofs.AloneFacts.{allowed_keeps, delivers_recorded, keeps_allowed}
use Rattle.a429_sink.proofs.OwedFacts.{last_refused}

pub traced_more : (p : Contents) (es : List Entry) (e : Entry) (t : LoneTrace)
    → IsLoneTrace p (items_of es ++ seen_of e ∷ []) t → IsLoneTrace p (items_of (es ++ e ∷ [])) t
traced_more p es e t = subst (λ (is : List Seen). IsLoneTrace p is t) (sym (items_push es e))

-- ---- what has come of the recording

pub began : (first left : Option Recording) (es : List Entry) → Came first es left → BeginsWith first es
began None left es h = tt
began (Some r) left es (rest, is, all) = (rest, all)

pub ran_out : (first left : Option Recording) (es : List Entry)
    → Came first es left → IfSome first (λ r. (rest : Recording) × (r ≡ with_entries es rest) × Stops read.OutOfMemory rest)
ran_out None left es h = tt
ran_out (Some r) left es (rest, is, all) = (rest, all, tt)

-- ---- a yes

pub says_yes : (p : Contents) → IsProfile p → (t : Taken) (trace : LoneTrace) → SeesWhole p t trace → SinkYes p t trace.files.items
says_yes p is t trace seen = record {
  entries = seen.entries;
  all = seen.all;
  came = seen.came;
  keeps = allowed_keeps p (is_read p is) (items_of seen.entries) sink_at_first seen.traced.allowed;
  crossed = seen.traced.files;
  each = λ steps run records. ap sizes_of (delivers_recorded p (is_read p is) steps run ∙ ap (files_of p) records) ∙ sym seen.traced.files;
}

-- ---- a no

-- words of which the last is refused are not allowed, whatever comes after it
not_allowed : (p : Contents) (items more : List Seen) (i : Seen) (k : Sink)
    → AreSinkAllowed p k ((items ++ i ∷ []) ++ more) → SinkAllows p (sink_after p items k) i
not_allowed p [] more i k h = h.0
not_allowed p (x ∷ items) more i k h = not_allowed p items more i (sink_sees p x.bus x.word k) h.1

pub says_no : (p : Contents) → IsProfile p → (t : Taken) (es : List Entry) (e : Entry) (r : Refusal) → BeginsWith t.recording (es ++ e ∷ [])
    → t.given ≡ length es + 1
    → IsRefusal p (items_of es ++ seen_of e ∷ []) r × (r.entry ≡ length (items_of es)) → SinkNo p t r
says_no p is t es e r begins came h =
    let n : r.entry ≡ length es = h.1 ∙ length-items_of es in
    let before : take r.entry (items_of es ++ seen_of e ∷ []) ≡ items_of es =
    ap (λ (m : ℕ). take m (items_of es ++ seen_of e ∷ [])) h.1 ∙ take-append_seam (items_of es) (seen_of e ∷ []) in
    let refused : IsSinkRefused p (items_of es ++ seen_of e ∷ []) (length (items_of es)) =
    subst (IsSinkRefused p (items_of es ++ seen_of e ∷ [])) h.1 h.0.refused in
    let never = last_refused p (items_of es) (seen_of e) refused in
    record {
      entries = es;
      next = e;
      begins = begins;
      came = came;
      number = n;
      keeps = allowed_keeps p (is_read p is) (items_of es) sink_at_first (subst (AreSinkAllowed p sink_at_first) before h.0.before);
      ends =
          λ more keeps.
          never (not_allowed p (items_of es) more (seen_of e) sink_at_first
          (keeps_allowed p (is_read p is) _ sink_at_first (subst (λ (is : List Seen). SinkKeeps p (is ++ more)) (items_push es e) keeps)));
      says = subst (λ (is : List Seen). IsRefusal p is r) (sym (items_push es e)) h.0;
    }
