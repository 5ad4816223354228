-- The trace of entries that come one by one.
use Rattle.std.proofs.Common.{◌≡◌, ℕ, suc, ◌+◌, ◌^◌, ◌<◌, List, [], ◌∷◌, ◌++◌, length, length-append, append_assoc, append-nil, take, Option, Some, None, IfSome, refl, sym, ap, ◌∙◌, subst, inl, inr, arith}
use Rattle.std.proofs.Math.Seq.{take-append_seam}
use Rattle.a429_profile.specs.Profile.{Contents, IsProfile}
use Rattle.a429_ldu.specs.declared.forms.Form.{Form}
use Rattle.a429_ldu.specs.declared.sight.Sight.{Sight}
use Rattle.a429_ldu.specs.Form.{form_of}
use Rattle.a429_ldu.specs.Sight.{sight_in, form_in}
use Rattle.a429_link.specs.declared.seen.Seen.{Seen}
use Rattle.a429_link.specs.declared.doing.Crossing.{Crossing}
use Rattle.a429_link.specs.Observer.{Allows, AllowsForm, AllowsNext, AreAllowed, IsRefused, Observer, at_first, observed}
use Rattle.a429_link.specs.Run.{BeginsARun}
use Rattle.a429_link.specs.Trace.{files_of}
use Rattle.a429_link.specs.Implied.{Implied, implied, implied_at_first, implies, observer_of, sizes_of}
use Rattle.a429_link.proofs.ImpliedFacts.{file_crosses, files_stay_without, implied_push, observer_again}
use Rattle.a429_record.specs.declared.entry.Entry.{Entry}
use Rattle.a429_cert.specs.Explained.{items_of, seen_of}
use Rattle.a429_explain.specs.declared.verdict.Reason.{Reason}
use Rattle.a429_explain.specs.Walk.{FitsSight, IsRefusable}
use Rattle.a429_explain.proofs.WalkFacts.{form_told, refusable}
use Rattle.a429_link.proofs.MessageRead.{is_read}
use Rattle.a429_link.proofs.ObserverRefuses as refuses
use Rattle.a429_link.proofs.TraceFiles.{files_delivered}
use Rattle.a429_record.specs.Recording.{Recording, whole}
use Rattle.a429_view.specs.declared.trace.TraceStop.TheVariants as stop
use Rattle.a429_view.specs.declared.trace.Trace.{Trace}
use Rattle.a429_view.specs.Trace.{GoesOn, IsTrace, IsTraceStop, crossings_by, line_of, lines_of, refused_line}
use Rattle.a429_commands.specs.declared.fault.RunFault.{RunFault}
use Rattle.a429_commands.specs.declared.fault.RunFault.TheVariants as run
use Rattle.a429_parts.specs.Keeping.{Taken}
use Rattle.a429_parts.proofs.KeepingFacts.{Came}
use Rattle.a429_commands.specs.Streaming.{AreAllBefore, AreThoseGiven}
use Rattle.a429_commands.proofs.StreamingFacts.{all_before}
use Rattle.a429_commands.specs.Trace.{AreInEachRun, BeginsWith, IsCut, IsRefusedAfter, Traces, first_lines, impossible, only, only_text}
use Rattle.a429_commands.specs.Check.{verdict_text}
use Rattle.a429_explain.specs.declared.verdict.Verdict.TheVariants as verdict
use Rattle.a429_word.specs.declared.sheet.Sheet.{Sheet}
use Rattle.a429_word.specs.Sheet.{Says, SaysSome}
use Rattle.a429_word.proofs.SheetFacts.{◌▹◌}
use Rattle.a429_word.proofs.CountFacts.{one_more}
use Rattle.a429_word.proofs.ListFacts.{last_item, take_with_last}
use Rattle.a429_ldu.proofs.FormFree.{free_none}
use Rattle.a429_link.proofs.ObserverMore.{allowed_push}
use Rattle.a429_cert.proofs.ItemsFacts.{items_push}

-- ---- one more entry

lines_from : (p : Contents) (n : ℕ) (k : Implied) (es : List Entry) (e : Entry)
    → lines_of p n k (es ++ e ∷ []) ≡ lines_of p n k es ++ line_of p (n + length es) (implied p (items_of es) k) e
lines_from p n k [] e = let none : n ≡ n + 0 = omega arith in append-nil (line_of p n k e) ∙ ap (λ m. line_of p m k e) none
lines_from p n k (x ∷ es) e =
    let sum : suc n + length es ≡ n + suc (length es) = omega arith in
    ap (λ (t : List ℕ). line_of p n k x ++ t) (lines_from p (suc n) (implies p (seen_of x) k) es e)
    ∙ sym (append_assoc (line_of p n k x) (lines_of p (suc n) (implies p (seen_of x) k) es)
    (line_of p (suc n + length es) (implied p (items_of es) (implies p (seen_of x) k)) e))
    ∙ ap (λ m.
    line_of p n k x ++ lines_of p (suc n) (implies p (seen_of x) k) es ++ line_of p m (implied p (items_of es) (implies p (seen_of x) k)) e)
    sum

pub lines_push : (p : Contents) (es : List Entry) (e : Entry)
    → lines_of p 0 implied_at_first (es ++ e ∷ []) ≡ lines_of p 0 implied_at_first es
    ++ line_of p (length es) (implied p (items_of es) implied_at_first) e
lines_push p es e =
    let same : 0 + length es ≡ length es = omega arith in lines_from p 0 implied_at_first es e
    ∙ ap (λ m. lines_of p 0 implied_at_first es ++ line_of p m (implied p (items_of es) implied_at_first) e) same

-- what is known after some entries: their trace, that each is allowed, and that they are few
pub record Traced (p : Contents) (t : Trace) (es : List Entry) : Type 0 where
  pub is : IsTrace p t es
  pub allowed : AreAllowed p at_first (items_of es)

pub allows_here : (p : Contents) (t : Trace) (es : List Entry) (i : Seen)
    → IsTrace p t es → Allows p (observer_of t.sink) i → Allows p (observed p (items_of es) at_first) i
allows_here p t es i h a = subst (λ (o : Observer). Allows p o i) (ap observer_of h.sink ∙ observer_again p (items_of es)) a

pub refused_here : (p : Contents) (t : Trace) (es : List Entry) (i : Seen)
    → IsTrace p t es → (Allows p (observer_of t.sink) i → ⊥) → Allows p (observed p (items_of es) at_first) i → ⊥
refused_here p t es i h never a =
    never (subst (λ (o : Observer). Allows p o i) (sym (ap observer_of h.sink ∙ observer_again p (items_of es))) a)

files_more : (p : Contents) (items : List Seen) (i : Seen) (x : Option Form)
    → form_of p.codes i.bus i.word ≡ x → Allows p (observed p items at_first) i
    → sizes_of (files_of p (items ++ i ∷ [])) ≡ sizes_of (files_of p items)
    ++ crossings_by p i.bus i.word x (implied p items implied_at_first)
files_more p items i None e a = ap sizes_of (files_stay_without p items i e) ∙ sym (append-nil (sizes_of (files_of p items)))
files_more p items i (Some x) e (inl free) = absurd (cc (sym (free_none p.codes i.bus i.word free) ∙ e))
files_more p items i (Some x) e (inr a) = file_crosses p items i x e (subst (AllowsForm (observed p items at_first) i.bus) e a)

pub traced_more : (p : Contents) (old new : Trace) (es : List Entry) (e : Entry)
    → GoesOn p e old new → length es + 1 < 2 ^ 64 → Traced p old es → Traced p new (es ++ e ∷ [])
traced_more p old new es e goes few h =
    let items = items_of es in
    let i = seen_of e in
    let allowed = allows_here p old es i h.is goes.allowed in
    let more = items_push es e in
    record {
      is = record {
        entries = one_more new.entries old.entries (length es) goes.entries h.is.entries few ∙ sym (length-append es (e ∷ []));
        sink = goes.sink ∙ ap (implies p i) h.is.sink ∙ sym (implied_push p items i implied_at_first)
            ∙ ap (λ (is : List Seen). implied p is implied_at_first) (sym more);
        files = goes.files
            ∙ ap (λ (fs : List Crossing). fs ++ crossings_by p e.bus e.word (form_of p.codes e.bus e.word) old.sink) h.is.files
            ∙ ap (λ (k : Implied). sizes_of (files_of p items) ++ crossings_by p e.bus e.word (form_of p.codes e.bus e.word) k) h.is.sink
            ∙ sym (files_more p items i (form_of p.codes e.bus e.word) refl allowed)
            ∙ ap (λ (is : List Seen). sizes_of (files_of p is)) (sym more);
      };
      allowed = subst (AreAllowed p at_first) (sym more) (allowed_push p items i at_first h.allowed allowed);
    }

-- ---- the first word that no run records

pub none_begins : (p : Contents) (items : List Seen) (i : Seen)
    → ((n : ℕ) → IsRefused p (items ++ i ∷ []) n → BeginsARun p (take (suc n) (items ++ i ∷ [])) → ⊥)
    → (Allows p (observed p items at_first) i → ⊥) → BeginsARun p (items ++ i ∷ []) → ⊥
none_begins p items i law never begins =
    law (length items)
    (λ a.
    never (subst (λ (is : List Seen). Allows p (observed p is at_first) i) (take-append_seam items (i ∷ []))
    (subst (AllowsNext p (observed p (take (length items) (items ++ i ∷ [])) at_first)) (last_item items i) a)))
    (subst (BeginsARun p) (sym (take_with_last items i)) begins)

-- why no run records it
pub refused_after : (p : Contents) → IsProfile p → (t : Trace) (es : List Entry) (e : Entry) (s : Sight) (r : Reason) → Traced p t es
    → IsTraceStop p t.sink e (stop.Refused s) → FitsSight (sight_in (form_in s)) r → IsRefusedAfter p (items_of es) (seen_of e) r
refused_after p sound t es e s r h stopped fits =
    let never = refused_here p t es (seen_of e) h.is stopped.1 in
    let may = refusable p sound (observed p (items_of es) at_first) (seen_of e) s stopped.0 never in
    record {
      before = h.allowed;
      refused = never;
      fits = subst (λ (x : Sight). FitsSight x r) (form_told s may ∙ stopped.0) fits;
      impossible =
          none_begins p (items_of es) (seen_of e) (λ n. refuses.impossible p (is_read p sound) (items_of es ++ seen_of e ∷ []) n) never;
    }

-- what is asked of it before its reason is named
pub may_name : (p : Contents) → IsProfile p → (t : Trace) (es : List Entry) (e : Entry) (s : Sight) → Traced p t es
    → IsTraceStop p t.sink e (stop.Refused s) → IsRefusable (sight_in (form_in s))
may_name p sound t es e s h stopped =
    let may =
    refusable p sound (observed p (items_of es) at_first) (seen_of e) s stopped.0 (refused_here p t es (seen_of e) h.is stopped.1) in
    subst IsRefusable (sym (form_told s may)) may

-- ---- what is delivered

pub delivered_all : (p : Contents) (t : Trace) (es : List Entry) → Traced p t es → AreInEachRun p (items_of es) t.files.items
delivered_all p t es h r e =
    ap sizes_of (files_delivered p (is_read p r.is_run.sound) r.first r.is_run.byte r.steps r.is_run.run (items_of es) e) ∙ sym h.is.files

-- ---- where it is cut off

pub begins_with : (first left : Option Recording) (es : List Entry) → Came first es left → BeginsWith first es
begins_with None left es h = tt
begins_with (Some r) left es h = (h.0.entries, ap (λ (q : Recording). q.entries) h.2)

pub cut_here : (p : Contents) (t : Trace) (es : List Entry) (first : Taken) (left : Option Recording) (f : RunFault) → Traced p t es
    → Came first.recording es left → AreAllBefore f left [] → AreThoseGiven f first.given (length es) → IsCut p first f (first_lines p es)
cut_here p t es first left f h came none given =
    record {
      entries = es;
      begins = begins_with first.recording left es came;
      all = all_before first.recording left es f came none;
      came = given;
      allowed = h.allowed;
      text_is = refl;
    }

-- exactly so many were handed out, whatever the fault is
pub all_given : (f : RunFault) (given n : ℕ) → given ≡ n → AreThoseGiven f given n
all_given run.Memory given n h = inl h
all_given run.Device given n h = h
all_given (run.Read f) given n h = h
all_given (run.Profile f) given n h = h
all_given (run.Cut k f) given n h = h
all_given run.TooLong given n h = h
all_given run.BadWord given n h = h
all_given run.Usage given n h = h
all_given run.NoPlace given n h = h
all_given run.OldFiles given n h = h
all_given (run.Map f) given n h = h
all_given (run.Export f) given n h = h

-- ---- what a sheet says

pub says_more : {W : Type 0} (contents : W → Option (List ℕ)) (a b c : Sheet W) (p : Contents) (t : Trace) (es : List Entry) (e : Entry)
    → Traced p t es → Says contents a b (first_lines p es) → Says contents b c (line_of p t.entries t.sink e)
    → Says contents a c (first_lines p (es ++ e ∷ []))
says_more contents a b c p t es e h before line =
    let here =
    subst (λ (k : Implied). Says contents b c (line_of p (length es) k e)) h.is.sink
    (subst (λ (n : ℕ). Says contents b c (line_of p n t.sink e)) h.is.entries line) in
    subst (Says contents a c) (sym (lines_push p es e)) (before ▹ here)

pub says_only : {W : Type 0} (contents : W → Option (List ℕ)) (a b c : Sheet W) (p : Contents) (known : Taken) (t : Trace) (es : List Entry)
    → Traced p t es → IfSome known.recording (λ r. r ≡ whole es) → Says contents a b (first_lines p es)
    → Says contents b c (only_text t.files.items) → SaysSome contents a c (Traces p known 0)
says_only contents a b c p known t es h all before after =
    (_, only es all h.allowed t.files.items h.is.files (delivered_all p t es h) refl refl, before ▹ after)

pub says_impossible : {W : Type 0} (contents : W → Option (List ℕ)) (a b c d : Sheet W) (p : Contents) (known : Taken) (t : Trace)
    (es : List Entry) (e : Entry) (n : ℕ) (r : Reason)
    → n ≡ t.entries → BeginsWith known.recording (es ++ e ∷ []) → Traced p t es → IsRefusedAfter p (items_of es) (seen_of e) r
    → Says contents a b (first_lines p es) → Says contents b c (refused_line p t.entries t.sink e)
    → Says contents c d (verdict_text (verdict.Impossible n r)) → SaysSome contents a d (Traces p known 1)
says_impossible contents a b c d p known t es e n r at begins h refused before line last =
    let here =
    subst (λ (k : Implied). Says contents b c (refused_line p (length es) k e)) h.is.sink
    (subst (λ (m : ℕ). Says contents b c (refused_line p m t.sink e)) h.is.entries line) in
    let there = subst (λ (m : ℕ). Says contents c d (verdict_text (verdict.Impossible m r))) (at ∙ h.is.entries) last in
    (_, impossible es e begins r refused refl refl, before ▹ (here ▹ there))

pub says_cut : {W : Type 0} (contents : W → Option (List ℕ)) (a b : Sheet W) (p : Contents) (known : Taken) (left : Option Recording)
    (t : Trace) (es : List Entry) (f : RunFault)
    → Traced p t es → Came known.recording es left → AreAllBefore f left [] → AreThoseGiven f known.given (length es)
    → Says contents a b (first_lines p es) → SaysSome contents a b (IsCut p known f)
says_cut contents a b p known left t es f h came none given says = (_, cut_here p t es known left f h came none given, says)
