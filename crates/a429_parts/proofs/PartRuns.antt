-- Each part of a run's recording is the recording of a run.
use Rattle.std.proofs.Common.{◌≡◌, ℕ, zero, suc, ◌<◌, Bool, true, false, cond, ◌&&◌, not, List, [], ◌∷◌, ◌++◌, length, take, drop, Option, Some, None, slice_get, refl, sym, ap, ◌∙◌, subst, inl, inr, arith}
use Rattle.std.proofs.lemmas.List.{take-append-drop}
use Rattle.std.proofs.lemmas.Option.{slice_get_within}
use Rattle.a429_word.specs.declared.bus.Bus.{Bus}
use Rattle.a429_word.specs.declared.bus.Bus.TheVariants as bus
use Rattle.a429_word.proofs.ListFacts.{next_item}
use Rattle.a429_profile.specs.declared.codes.Codes.{Codes}
use Rattle.a429_profile.specs.Profile.{Contents}
use Rattle.a429_ldu.specs.declared.forms.Form.{Form}
use Rattle.a429_ldu.specs.declared.forms.Form.TheVariants as form
use Rattle.a429_ldu.specs.Form.{form_of}
use Rattle.a429_ldu.specs.Ldu.{LduValue, is_final}
use Rattle.a429_ldu.specs.Carried.{bytes_in}
use Rattle.a429_link.specs.declared.file.FileBytes.{FileBytes}
use Rattle.a429_link.specs.declared.number.UnitNumber.{UnitNumber}
use Rattle.a429_link.specs.declared.seen.Seen.{Seen}
use Rattle.a429_link.specs.declared.state.SourceState.{SourceState}
use Rattle.a429_link.specs.declared.state.SourceState.TheVariants.{Waiting}
use Rattle.a429_link.specs.declared.step.Step.{Step}
use Rattle.a429_link.specs.declared.step.Step.TheVariants.{Answered, FreeSeen, GiveUp, Load, LoseAnswer, Sent, SentLost, Silent, SinkTakes, TakeAnswer, TimeOut}
use Rattle.a429_link.specs.Observer.{Observer, Allows, AllowsNext, IsRefused, at_first, observed, sees, sink_of}
use Rattle.a429_link.specs.Run.{IsRun, RunOf, end_of, offers, settles, trace, with_label}
use Rattle.a429_link.specs.Sink.{Block, Number, Owes, OwesAck, Quiet, Received, Sink, SinkPhase, in_phase, is_same, number_of, put, received_for, with_received, nothing_received}
use Rattle.a429_link.specs.State.{State, start}
use Rattle.a429_link.specs.Step.{Can, after, label}
use Rattle.a429_link.specs.Trace.{files_of, sink_after, sink_at_first}
use Rattle.a429_link.proofs.CleanRuns.{end_append, run_append, trace_append}
use Rattle.a429_link.proofs.Message.{Ack, Cts, Eot, IsRead, MaySay, Message, Nak, Part, Rts, Sot, answers_as, message_in, message_of}
use Rattle.a429_link.proofs.MessageRead.{is_read}
use Rattle.a429_link.proofs.NumberFacts.{number_from}
use Rattle.a429_link.proofs.ObserverRefuses.{impossible}
use Rattle.a429_link.proofs.RunCrossing.{CrossesAt, start_books, step_crosses}
use Rattle.a429_link.proofs.SinkFromTrace.{Alike, step_alike, take_all}
use Rattle.a429_link.proofs.SinkFromTrace.{sees as sink_saw}
use Rattle.a429_link.proofs.StateConfigs.{Config, asked, idle, may_owes, sending, sink_at, source_at, unasked, waiting, whole}
use Rattle.a429_link.proofs.StateHolds.{HoldsAt, alone_on_the_way, next_in_range, owed_form, sends, start_holds, step_holds}
use Rattle.a429_link.proofs.TraceFiles.{files_delivered, observed_sink}
use Rattle.a429_link.proofs.ObserverMore.{observed_more}
use Rattle.a429_parts.specs.Alone.{IsRunAlone}
use Rattle.a429_parts.specs.Cutting.{Course, Follows, Lost, CourseAfter, GoesOn, IsPlace, LeavesBy, LeavesUnit, MayCut, crossing, crossing_of}
use Rattle.a429_parts.specs.Kept.{HasRun}
use Rattle.a429_parts.proofs.RerunStates.{crossed, state}
use Rattle.a429_parts.proofs.Rerun.{Begun, OtherBy, OtherStart, crossed_begun}

-- ---- a file crosses

record Crossing (c : Codes) (last : Option Number) (kp : SinkPhase) (x : Option Form) (unit : UnitNumber) : Type 0 where
  block : Block
  flags : ℕ
  owed : kp ≡ OwesAck block flags
  other : is_same last (number_of block) ≡ false
  final : is_final c flags ≡ true
  ack : x ≡ Some (form.Ack unit.file unit.ldu)

crossing_parts : (c : Codes) (last : Option Number) (kp : SinkPhase) (x : Option Form) (unit : UnitNumber)
    → crossing_of c last kp x ≡ Some unit → Crossing c last kp x unit
crossing_parts c last (OwesAck b flags) (Some (form.Ack file ldu)) unit e = by (is_same last (number_of b)) (is_final c flags) refl refl e
  where
    by : (s t : Bool) → is_same last (number_of b) ≡ s → is_final c flags ≡ t
        → cond (not s && t) (Some (record { file = file; ldu = ldu })) None ≡ Some unit
        → Crossing c last (OwesAck b flags) (Some (form.Ack file ldu)) unit
    by true t hs ht e = absurd (cc e)
    by false false hs ht e = absurd (cc e)
    by false true hs ht e =
        let same : record { file = file; ldu = ldu } ≡ unit = cc e in
        record {
          block = b;
          flags = flags;
          owed = refl;
          other = hs;
          final = ht;
          ack = ap (λ (n : UnitNumber). Some (form.Ack n.file n.ldu)) same;
        }
crossing_parts c last kp x unit e = absurd (cc e)

-- the answer by which it crosses: from there on a run of its own records the words
whole_begun : (p : Contents) → IsRead p → (i : Seen) (g : ℕ) (number : UnitNumber) (cur : Option LduValue) (sp : SourceState)
    (last : Option Number) (received : Received) (count : ℕ) (b : Block) (flags : ℕ) (ws vs : List ℕ) (xs ys : List Message) (o : Received)
    (fs : List FileBytes) (unit : UnitNumber) (steps : List Step)
    → Config number cur sp count (OwesAck b flags) xs ys → ws ≡ [] → vs ≡ [] → is_same last (number_of b) ≡ false
    → is_final p.codes flags ≡ true → message_of p bus.B i.word ≡ Some (Ack unit.file unit.ldu) → number_of b ≡ unit
    → IsRun p steps (after p (Answered i) (state (source_at g number cur sp) (sink_at last received count (OwesAck b flags)) ws vs))
    → HoldsAt p (after p (Answered i) (state (source_at g number cur sp) (sink_at last received count (OwesAck b flags)) ws vs))
    → CrossesAt p (after p (Answered i) (state (source_at g number cur sp) (sink_at last received count (OwesAck b flags)) ws vs)) o fs
    → OtherStart p unit (trace steps)
    → Begun p
    (after p (Answered i) (state (source_at g number cur sp) (sink_at last received count (OwesAck b flags)) ws vs)).sink.received.files
    steps (after p (Answered i) (state (source_at g number cur sp) (sink_at last received count (OwesAck b flags)) ws vs))
whole_begun p good i g number cur sp last received count b flags ws vs xs ys o fs unit steps (whole {u} r h) ew ev other final says same run
    holds crosses others =
    let at : number ≡ unit = sym h.told ∙ same in
    let taken : Received = put b.file (bytes_in p.codes b.words) (is_final p.codes flags) (received_for last b.file received) in
    let z : State = state (source_at g unit (Some u) Waiting) (sink_at (crossed unit) taken count Quiet) [] (i.word ∷ []) in
    let sink = answered last received count b flags unit other final says same in
    let is : after p (Answered i) (state (source_at g number (Some u) Waiting) (sink_at last received count (OwesAck b flags)) ws vs) ≡ z =
    ap (λ (k : Sink). state (source_at g number (Some u) Waiting) k ws (vs ++ i.word ∷ [])) sink
    ∙ ap (λ (n : UnitNumber). state (source_at g n (Some u) Waiting) (sink_at (crossed unit) taken count Quiet) ws (vs ++ i.word ∷ [])) at
    ∙ ap (λ (l : List ℕ). state (source_at g unit (Some u) Waiting) (sink_at (crossed unit) taken count Quiet) l (vs ++ i.word ∷ [])) ew
    ∙ ap (λ (l : List ℕ). state (source_at g unit (Some u) Waiting) (sink_at (crossed unit) taken count Quiet) [] (l ++ i.word ∷ [])) ev in
    let holds_there = subst (HoldsAt p) is holds in
    let begun =
    crossed_begun p good unit holds_there.file u i.word steps g taken count o fs holds_there.current.2
    (ap (is_final p.codes) (sym h.flags) ∙ final) says
    (subst (IsRun p steps) is run) holds_there (subst (λ (s : State). CrossesAt p s o fs) is crosses) others in
    subst (λ (s : State). Begun p s.sink.received.files steps s) (sym is) begun
  where
    answered : (last : Option Number) (received : Received) (count : ℕ) (b : Block) (flags : ℕ) (unit : UnitNumber)
        → is_same last (number_of b) ≡ false → is_final p.codes flags ≡ true → message_of p bus.B i.word ≡ Some (Ack unit.file unit.ldu)
        → number_of b ≡ unit
        → (after p (Answered i) (state (source_at g number cur sp) (sink_at last received count (OwesAck b flags)) ws vs)).sink
        ≡ sink_at (crossed unit)
        (put b.file (bytes_in p.codes b.words) (is_final p.codes flags) (received_for last b.file received)) count Quiet
    answered last received count b flags unit other final says same =
        let k : Sink = sink_at last received count (OwesAck b flags) in
        let taken : Received = put b.file (bytes_in p.codes b.words) (is_final p.codes flags) (received_for last b.file received) in
        answers_as p i.word (Ack unit.file unit.ldu) k says
        ∙ ap (λ (t : Bool). in_phase Quiet
        (cond t k (record k { last = Some (record { number = number_of b; final = is_final p.codes flags }); received = taken }))) other
        ∙ ap (λ (t : Bool). sink_at (Some (record { number = number_of b; final = t })) taken count Quiet) final
        ∙ ap (λ (n : UnitNumber). sink_at (crossed n) taken count Quiet) same
whole_begun p good i g number cur sp last received count b flags ws vs xs ys o fs unit steps (idle f s) ew ev other final says same run
    holds crosses others =
    absurd s
whole_begun p good i g number cur sp last received count b flags ws vs xs ys o fs unit steps (asked r s q) ew ev other final says same run
    holds crosses others =
    absurd s
whole_begun p good i g number cur sp last received count b flags ws vs xs ys o fs unit steps (unasked r s) ew ev other final says same run
    holds crosses others =
    absurd s
whole_begun p good i g number cur sp last received count b flags ws vs xs ys o fs unit steps (sending r h c le q) ew ev other final says
    same run holds crosses others =
    absurd h
whole_begun p good i g number cur sp last received count b flags ws vs xs ys o fs unit steps (waiting r h c q) ew ev other final says same
    run holds crosses others =
    absurd h

some_said : (x : Message) (unit : UnitNumber) (m : Option Message)
    → m ≡ Some x → m ≡ Some (Ack unit.file unit.ldu) → x ≡ Ack unit.file unit.ldu
some_said x unit m a b = cc (a, b)

-- where the sink owes an answer, it is that of the recording
same_sink : (p : Contents) (s : State) (k : Sink) → Alike p s k → s.to_sink ≡ [] → Owes s.sink.phase → s.sink ≡ k
same_sink p s k (inl m) none owes = subst (λ (ws : List ℕ). take_all p ws s.sink ≡ k) none m
same_sink p s k (inr r) none owes = absurd (subst Owes (ap (λ (x : Sink). x.phase) r.alike) owes)

-- the step that records it
crossing_begun : (p : Contents) → IsRead p → (a : Step) (s : State) (k : Sink) (i : Seen) (o : Received) (fs : List FileBytes)
    (unit : UnitNumber) (steps : List Step) → label a ≡ Some i → Can p a s → HoldsAt p s → CrossesAt p s o fs → Alike p s k
    → crossing_of p.codes k.last k.phase (form_of p.codes i.bus i.word) ≡ Some unit → IsRun p steps (after p a s)
    → OtherStart p unit (trace steps) → Begun p (after p a s).sink.received.files steps (after p a s)
crossing_begun p good (Answered j) s k i o fs unit steps e can holds crosses alike crosses_by run others =
    let is : j ≡ i = cc e in
    let r = owed_form p s j can in
    let owes = may_owes s.sink.count s.sink.phase r.said r.owed in
    let alone = alone_on_the_way p s owes holds in
    let sink = same_sink p s k alike alone.1 owes in
    let there = subst (λ (x : Sink). crossing_of p.codes x.last x.phase (form_of p.codes i.bus i.word) ≡ Some unit) (sym sink) crosses_by in
    let c = crossing_parts p.codes s.sink.last s.sink.phase (form_of p.codes i.bus i.word) unit there in
    let form_is : form_of p.codes bus.B j.word ≡ Some (form.Ack unit.file unit.ldu) =
    subst (λ (b : Bus). form_of p.codes b j.word ≡ Some (form.Ack unit.file unit.ldu)) can.0
    (subst (λ (x : Seen). form_of p.codes x.bus x.word ≡ Some (form.Ack unit.file unit.ldu)) (sym is) c.ack) in
    let says : message_of p bus.B j.word ≡ Some (Ack unit.file unit.ldu) = ap (message_in j.word) form_is in
    let may : MaySay s.sink.count (OwesAck c.block c.flags) (Ack unit.file unit.ldu) =
    subst (λ (q : SinkPhase). MaySay s.sink.count q (Ack unit.file unit.ldu)) c.owed
    (subst (MaySay s.sink.count s.sink.phase) (some_said r.said unit (message_of p bus.B j.word) r.is says) r.owed) in
    let same : number_of c.block ≡ unit = number_from (number_of c.block) unit (sym may.0) (sym may.1) in
    let q : SinkPhase = OwesAck c.block c.flags in
    subst (λ (x : SinkPhase). Begun p (after p (Answered j) (with_phase x)).sink.received.files steps (after p (Answered j) (with_phase x)))
    (sym c.owed)
    (whole_begun p good j s.source.give_ups s.source.number s.source.current s.source.phase s.sink.last s.sink.received s.sink.count c.block
    c.flags s.to_sink s.to_source holds.xs holds.ys (offers p (Answered j) s o) (settles p (Answered j) s o fs) unit steps
    (subst (λ (x : SinkPhase). Config s.source.number s.source.current s.source.phase s.sink.count x holds.xs holds.ys) c.owed holds.fits)
    alone.1 alone.2 c.other c.final says same
    (subst (λ (x : SinkPhase). IsRun p steps (after p (Answered j) (with_phase x))) c.owed run)
    (subst (λ (x : SinkPhase). HoldsAt p (after p (Answered j) (with_phase x))) c.owed (step_holds p good (Answered j) s can holds))
    (subst (λ (x : SinkPhase). CrossesAt p (after p (Answered j) (with_phase x)) (offers p (Answered j) s o)
    (settles p (Answered j) s o fs)) c.owed (step_crosses p good (Answered j) s o fs can holds crosses)) others)
  where
    with_phase : SinkPhase → State
    with_phase x = state s.source (sink_at s.sink.last s.sink.received s.sink.count x) s.to_sink s.to_source
crossing_begun p good (Sent j) s k i o fs unit steps e can holds crosses alike crosses_by run others =
    let is : j ≡ i = cc e in
    let says = sends p good s.source j.word holds.file holds.current can.1 in
    let c = crossing_parts p.codes k.last k.phase (form_of p.codes i.bus i.word) unit crosses_by in
    let form_is : form_of p.codes bus.A j.word ≡ Some (form.Ack unit.file unit.ldu) =
    subst (λ (b : Bus). form_of p.codes b j.word ≡ Some (form.Ack unit.file unit.ldu)) can.0
    (subst (λ (x : Seen). form_of p.codes x.bus x.word ≡ Some (form.Ack unit.file unit.ldu)) (sym is) c.ack) in
    let said : says.said ≡ Ack unit.file unit.ldu =
    some_said says.said unit (message_of p bus.A j.word) says.says (ap (message_in j.word) form_is) in
    absurd (next_in_range p s.source.number s.source.current s.source.phase (Ack unit.file unit.ldu) holds.file holds.current
    (says.next ∙ ap (λ (x : Message). Some x) said))
crossing_begun p good (FreeSeen j) s k i o fs unit steps e can holds crosses alike crosses_by run others =
    let is : j ≡ i = cc e in
    let c = crossing_parts p.codes k.last k.phase (form_of p.codes i.bus i.word) unit crosses_by in
    let none : form_of p.codes i.bus i.word ≡ None =
    subst (λ (x : Seen). form_of p.codes x.bus x.word ≡ None) is (good.free j.bus j.word can) in
    let ack = c.ack in
    absurd (cc (none, ack))
crossing_begun p good (Load u) s k i o fs unit steps e can holds crosses alike crosses_by run others = absurd (cc e)
crossing_begun p good SentLost s k i o fs unit steps e can holds crosses alike crosses_by run others = absurd (cc e)
crossing_begun p good TimeOut s k i o fs unit steps e can holds crosses alike crosses_by run others = absurd (cc e)
crossing_begun p good TakeAnswer s k i o fs unit steps e can holds crosses alike crosses_by run others = absurd (cc e)
crossing_begun p good LoseAnswer s k i o fs unit steps e can holds crosses alike crosses_by run others = absurd (cc e)
crossing_begun p good SinkTakes s k i o fs unit steps e can holds crosses alike crosses_by run others = absurd (cc e)
crossing_begun p good Silent s k i o fs unit steps e can holds crosses alike crosses_by run others = absurd (cc e)
crossing_begun p good GiveUp s k i o fs unit steps e can holds crosses alike crosses_by run others = absurd (cc e)

-- ---- a run up to a word

-- the steps up to the one that records word n of these, that step, and the steps behind it
record Reached (p : Contents) (s : State) (k : Sink) (words : List Seen) (n : ℕ) : Type 0 where
  front : List Step
  step : Step
  back : List Step
  item : Seen
  o : Received
  fs : List FileBytes
  label_is : label step ≡ Some item
  get : slice_get words n ≡ Some item
  front_run : IsRun p front s
  can : Can p step (end_of p front s)
  back_run : IsRun p back (after p step (end_of p front s))
  first_words : trace front ≡ take n words
  last_words : trace back ≡ drop (suc n) words
  holds : HoldsAt p (end_of p front s)
  crosses : CrossesAt p (end_of p front s) o fs
  alike : Alike p (end_of p front s) (sink_after p (take n words) k)

reach : (p : Contents) → IsRead p → (steps : List Step) (s : State) (k : Sink) (o : Received) (fs : List FileBytes) (n : ℕ)
    → IsRun p steps s → HoldsAt p s → CrossesAt p s o fs → Alike p s k → n < length (trace steps) → Reached p s k (trace steps) n
reach p good [] s k o fs n run holds crosses alike within = absurd (omega arith)
reach p good (a ∷ steps) s k o fs n run holds crosses alike within =
    by
    (λ m le. reach p good steps (after p a s) (sink_saw p (label a) k) (offers p a s o) (settles p a s o fs) m run.1
    (step_holds p good a s run.0 holds) (step_crosses p good a s o fs run.0 holds crosses) (step_alike p good a s k run.0 holds alike) le)
    (label a) refl n within
  where
    by : ((m : ℕ) → m < length (trace steps) → Reached p (after p a s) (sink_saw p (label a) k) (trace steps) m) → (l : Option Seen)
        → label a ≡ l → (n : ℕ) → n < length (with_label (label a) (trace steps)) → Reached p s k (with_label (label a) (trace steps)) n
    by later None e n le =
        let words : with_label (label a) (trace steps) ≡ trace steps = ap (λ (x : Option Seen). with_label x (trace steps)) e in
        let sink : sink_saw p (label a) k ≡ k = ap (λ (x : Option Seen). sink_saw p x k) e in
        let r =
        subst (λ (q : Sink). Reached p (after p a s) q (trace steps) n) sink (later n (subst (λ (l : List Seen). n < length l) words le)) in
        subst (λ (l : List Seen). Reached p s k l n) (sym words)
        (record {
          front = a ∷ r.front;
          step = r.step;
          back = r.back;
          item = r.item;
          o = r.o;
          fs = r.fs;
          label_is = r.label_is;
          get = r.get;
          front_run = (run.0, r.front_run);
          can = r.can;
          back_run = r.back_run;
          first_words = ap (λ (x : Option Seen). with_label x (trace r.front)) e ∙ r.first_words;
          last_words = r.last_words;
          holds = r.holds;
          crosses = r.crosses;
          alike = r.alike;
        })
    by later (Some i) e zero le =
        let words : with_label (label a) (trace steps) ≡ i ∷ trace steps = ap (λ (x : Option Seen). with_label x (trace steps)) e in
        subst (λ (l : List Seen). Reached p s k l 0) (sym words)
        (record {
          front = [];
          step = a;
          back = steps;
          item = i;
          o = o;
          fs = fs;
          label_is = e;
          get = refl;
          front_run = tt;
          can = run.0;
          back_run = run.1;
          first_words = refl;
          last_words = refl;
          holds = holds;
          crosses = crosses;
          alike = alike;
        })
    by later (Some i) e (suc m) le =
        let words : with_label (label a) (trace steps) ≡ i ∷ trace steps = ap (λ (x : Option Seen). with_label x (trace steps)) e in
        let sink : sink_saw p (label a) k ≡ sink_saw p (Some i) k = ap (λ (x : Option Seen). sink_saw p x k) e in
        let within : suc m < length (i ∷ trace steps) = subst (λ (l : List Seen). suc m < length l) words le in
        let r = subst (λ (q : Sink). Reached p (after p a s) q (trace steps) m) sink (later m (omega (arith, within))) in
        subst (λ (l : List Seen). Reached p s k l (suc m)) (sym words)
        (record {
          front = a ∷ r.front;
          step = r.step;
          back = r.back;
          item = r.item;
          o = r.o;
          fs = r.fs;
          label_is = r.label_is;
          get = r.get;
          front_run = (run.0, r.front_run);
          can = r.can;
          back_run = r.back_run;
          first_words = ap (λ (x : Option Seen). with_label x (trace r.front)) e ∙ ap (λ (l : List Seen). i ∷ l) r.first_words;
          last_words = r.last_words;
          holds = r.holds;
          crosses = r.crosses;
          alike = r.alike;
        })

-- the first steps of a run, which record the first words
record Front (p : Contents) (s : State) (words : List Seen) : Type 0 where
  steps : List Step
  run : IsRun p steps s
  records : trace steps ≡ words

front_of : (p : Contents) (steps : List Step) (s : State) (xs ys : List Seen) → trace steps ≡ xs ++ ys → IsRun p steps s → Front p s xs
front_of p steps s [] ys e run = record { steps = []; run = tt; records = refl }
front_of p [] s (x ∷ xs) ys e run = absurd (cc e)
front_of p (a ∷ steps) s (x ∷ xs) ys e run = by (λ zs more. front_of p steps (after p a s) zs ys more run.1) (label a) refl
  where
    by : ((zs : List Seen) → trace steps ≡ zs ++ ys → Front p (after p a s) zs) → (l : Option Seen) → label a ≡ l → Front p s (x ∷ xs)
    by later None h =
        let r = later (x ∷ xs) (sym (ap (λ (l : Option Seen). with_label l (trace steps)) h) ∙ e) in
        record { steps = a ∷ r.steps; run = (run.0, r.run); records = ap (λ (l : Option Seen). with_label l (trace r.steps)) h ∙ r.records }
    by later (Some i) h =
        let all : i ∷ trace steps ≡ x ∷ (xs ++ ys) = sym (ap (λ (l : Option Seen). with_label l (trace steps)) h) ∙ e in
        let same : i ≡ x = cc all in
        let tail : trace steps ≡ xs ++ ys = cc all in
        let r = later xs tail in
        record {
          steps = a ∷ r.steps;
          run = (run.0, r.run);
          records = ap (λ (l : Option Seen). with_label l (trace r.steps)) h ∙ ap (λ (j : Seen). j ∷ trace r.steps) same
              ∙ ap (λ (l : List Seen). x ∷ l) r.records;
        }

-- ---- the course of a run is never lost

not_refused : (p : Contents) (r : RunOf p) (n : ℕ) → IsRefused p (trace r.steps) n → ⊥
not_refused p r n refused =
    let is = r.is_run in
    impossible p (is_read p is.sound) (trace r.steps) n refused
    (record {
      first = r.first;
      byte = is.byte;
      steps = r.steps;
      run = is.run;
      more = drop (suc n) (trace r.steps);
      records = sym (take-append-drop (suc n) (trace r.steps));
    })

follows_run : (p : Contents) (items : List Seen) (n : ℕ) (course : Course) → ((m : ℕ) → IsRefused p items m → ⊥)
    → CourseAfter p items n course → (crossed : Option UnitNumber) × (course ≡ Follows (observed p (take n items) at_first) crossed)
follows_run p items zero course allowed is = (None, is)
follows_run p items (suc n) course allowed (before, i, at, get, goes) =
    let there = follows_run p items n before allowed at in
    by there.0 (subst (λ (c : Course). GoesOn p c i (drop (suc n) items) course) there.1 goes)
  where
    by : (crossed : Option UnitNumber) → GoesOn p (Follows (observed p (take n items) at_first) crossed) i (drop (suc n) items) course
        → (later : Option UnitNumber) × (course ≡ Follows (observed p (take (suc n) items) at_first) later)
    by crossed (inl (allows, is)) = (
      crossing p (observed p (take n items) at_first) i,
      is ∙ ap (λ (o : Observer). Follows o (crossing p (observed p (take n items) at_first) i))
          (sym (observed_more p items n i at_first get)),
    )
    by crossed (inr (refuses, is)) = absurd (allowed n (λ a. refuses (subst (AllowsNext p (observed p (take n items) at_first)) get a)))

-- the last word of such a course
follows_last : (p : Contents) (items : List Seen) (n : ℕ) (o : Observer) (unit : UnitNumber)
    → ((m : ℕ) → IsRefused p items m → ⊥) → CourseAfter p items (suc n) (Follows o (Some unit))
    → (i : Seen) × (slice_get items n ≡ Some i) × (crossing p (observed p (take n items) at_first) i ≡ Some unit)
follows_last p items n o unit allowed (before, i, at, get, goes) =
    let there = follows_run p items n before allowed at in
    (i, get, by there.0 (subst (λ (c : Course). GoesOn p c i (drop (suc n) items) (Follows o (Some unit))) there.1 goes))
  where
    by : (crossed : Option UnitNumber)
        → GoesOn p (Follows (observed p (take n items) at_first) crossed) i (drop (suc n) items) (Follows o (Some unit))
        → crossing p (observed p (take n items) at_first) i ≡ Some unit
    by crossed (inl (allows, is)) = cc is
    by crossed (inr (refuses, is)) = absurd (cc is)

-- the next start word has another number
by_other : (unit : UnitNumber) (w : ℕ) (x : Option Form) (Allowed Later Next : Type 0)
    → (Later → Next) → LeavesBy unit x Allowed Later → OtherBy unit (message_in w x) Next
by_other unit w None Allowed Later Next go h = go h.1
by_other unit w (Some (form.Rts n)) Allowed Later Next go h = go h.1
by_other unit w (Some (form.Cts n)) Allowed Later Next go h = go h.1
by_other unit w (Some (form.Ack f l)) Allowed Later Next go h = go h.1
by_other unit w (Some (form.Nak n)) Allowed Later Next go h = go h.1
by_other unit w (Some (form.Sot g f l)) Allowed Later Next go h = h
by_other unit w (Some (form.Part s)) Allowed Later Next go h = go h.1
by_other unit w (Some (form.Eot f c)) Allowed Later Next go h = go h.1

leaves_other : (p : Contents) (unit : UnitNumber) (o : Observer) (items : List Seen) → LeavesUnit p unit o items → OtherStart p unit items
leaves_other p unit o [] h = absurd h
leaves_other p unit o (i ∷ items) h =
    by_other unit i.word (form_of p.codes i.bus i.word) (Allows p o i) (LeavesUnit p unit (sees p i o) items) (OtherStart p unit items)
    (leaves_other p unit (sees p i o) items) h

by_front : (unit : UnitNumber) (m : Option Message) (Later Next : Type 0) → (Later → Next) → OtherBy unit m Later → OtherBy unit m Next
by_front unit None Later Next go h = go h
by_front unit (Some (Rts n)) Later Next go h = go h
by_front unit (Some (Cts n)) Later Next go h = go h
by_front unit (Some (Ack f l)) Later Next go h = go h
by_front unit (Some (Nak n)) Later Next go h = go h
by_front unit (Some (Sot g f l)) Later Next go h = h
by_front unit (Some (Part w)) Later Next go h = go h
by_front unit (Some (Eot f c)) Later Next go h = go h

front_other : (p : Contents) (unit : UnitNumber) (xs ys : List Seen) → OtherStart p unit (xs ++ ys) → OtherStart p unit xs
front_other p unit [] ys h = tt
front_other p unit (x ∷ xs) ys h =
    by_front unit (message_of p x.bus x.word) (OtherStart p unit (xs ++ ys)) (OtherStart p unit xs) (front_other p unit xs ys) h

-- ---- the parts

-- the first words of a run are those of a run
pub first_part : (p : Contents) (r : RunOf p) (part behind : List Seen) → trace r.steps ≡ part ++ behind → HasRun p part (files_of p part)
first_part p r part behind e =
    let is = r.is_run in
    let f = front_of p r.steps (start p r.first) part behind e is.run in
    record {
      run = record { first = r.first; steps = f.steps; is_run = record { sound = is.sound; byte = is.byte; run = f.run } };
      records = f.records;
      delivers = files_delivered p (is_read p is.sound) r.first is.byte f.steps f.run part f.records;
    }

part_at : (p : Contents) (r : RunOf p) (n : ℕ) (i : Seen) (unit : UnitNumber) (part behind : List Seen)
    → slice_get (trace r.steps) n ≡ Some i → crossing p (observed p (take n (trace r.steps)) at_first) i ≡ Some unit
    → OtherStart p unit (drop (suc n) (trace r.steps)) → drop (suc n) (trace r.steps) ≡ part ++ behind
    → IsRunAlone p (take (suc n) (trace r.steps)) part
part_at p r n i unit part behind get crosses others e =
    let is = r.is_run in
    let good = is_read p is.sound in
    let items = trace r.steps in
    let s = start p r.first in
    let c =
    reach p good r.steps s sink_at_first nothing_received [] n is.run (start_holds p r.first is.byte)
    (start_books p r.first is.byte).crosses (inl refl) (slice_get_within items n i get) in
    let at = end_of p c.front s in
    let f = front_of p c.back (after p c.step at) part behind (c.last_words ∙ e) c.back_run in
    let item : c.item ≡ i = cc (c.get, get) in
    let sink : sink_of (observed p (take n items) at_first) ≡ with_received nothing_received (sink_after p (take n items) sink_at_first) =
    observed_sink p (take n items) in
    let by = subst (λ (k : Sink). crossing_of p.codes k.last k.phase (form_of p.codes i.bus i.word) ≡ Some unit) sink crosses in
    let others_there : OtherStart p unit (trace f.steps) =
    subst (OtherStart p unit) (sym f.records) (front_other p unit part behind (subst (OtherStart p unit) e others)) in
    let b =
    crossing_begun p good c.step at (sink_after p (take n items) sink_at_first) i c.o c.fs unit f.steps
    (c.label_is ∙ ap (λ (j : Seen). Some j) item) c.can c.holds c.crosses c.alike by f.run others_there in
    let again = b.rerun in
    let recorded = again.records ∙ f.records in
    let alone = files_delivered p good b.first b.byte again.again again.run part recorded in
    let before = c.front ++ c.step ∷ [] in
    let before_run : IsRun p before s = run_append p c.front (c.step ∷ []) s c.front_run (c.can, tt) in
    let before_words : trace before ≡ take (suc n) items =
    trace_append c.front (c.step ∷ []) ∙ ap (λ (l : List Seen). l ++ trace (c.step ∷ [])) c.first_words
    ∙ ap (λ (l : Option Seen). take n items ++ with_label l []) (c.label_is ∙ ap (λ (j : Seen). Some j) item)
    ∙ sym (next_item n i items get) in
    let before_end : end_of p before s ≡ after p c.step at = end_append p c.front (c.step ∷ []) s in
    let before_files = files_delivered p good r.first is.byte before before_run (take (suc n) items) before_words in
    let all_run : IsRun p (before ++ f.steps) s =
    run_append p before f.steps s before_run (subst (IsRun p f.steps) (sym before_end) f.run) in
    let all_words : trace (before ++ f.steps) ≡ take (suc n) items ++ part = trace_append before f.steps
    ∙ ap (λ (l : List Seen). l ++ trace f.steps) before_words ∙ ap (λ (l : List Seen). take (suc n) items ++ l) f.records in
    let all_end : end_of p (before ++ f.steps) s ≡ end_of p f.steps (after p c.step at) =
    end_append p before f.steps s ∙ ap (end_of p f.steps) before_end in
    let all_files = files_delivered p good r.first is.byte (before ++ f.steps) all_run (take (suc n) items ++ part) all_words in
    record {
      run = record {
        run = record { first = b.first; steps = again.again; is_run = record { sound = is.sound; byte = b.byte; run = again.run } };
        records = recorded;
        delivers = alone;
      };
      files =
          sym all_files ∙ ap (λ (x : State). x.sink.received.files) all_end ∙ again.delivers
          ∙ ap (λ (l : List FileBytes). (after p c.step at).sink.received.files ++ l) alone
          ∙ ap (λ (l : List FileBytes). l ++ files_of p part) (sym (ap (λ (x : State). x.sink.received.files) before_end) ∙ before_files);
    }

-- and from a place on, too
pub next_part : (p : Contents) (r : RunOf p) (n : ℕ) (part behind : List Seen)
    → IsPlace p (trace r.steps) n → drop n (trace r.steps) ≡ part ++ behind → IsRunAlone p (take n (trace r.steps)) part
next_part p r n part behind (course, at, may) e = by course n at may e
  where
    by : (course : Course) (n : ℕ) → CourseAfter p (trace r.steps) n course → MayCut p course (drop n (trace r.steps))
        → drop n (trace r.steps) ≡ part ++ behind → IsRunAlone p (take n (trace r.steps)) part
    by Lost n at may e = let there = follows_run p (trace r.steps) n Lost (not_refused p r) at in absurd (cc there.1)
    by (Follows o None) n at may e = absurd may
    by (Follows o (Some unit)) zero at may e = absurd (cc at)
    by (Follows o (Some unit)) (suc n) at may e =
        let last = follows_last p (trace r.steps) n o unit (not_refused p r) at in
        part_at p r n last.0 unit part behind last.1 last.2 (leaves_other p unit o (drop (suc n) (trace r.steps)) may) e
