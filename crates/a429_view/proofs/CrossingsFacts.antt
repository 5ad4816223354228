-- The rows that say a file crosses are those of the steps by which the sink delivers one.
use Rattle.std.proofs.Common.{◌≡◌, ℕ, suc, ◌+◌, ◌≤◌, Bool, true, false, cond, List, [], ◌∷◌, ◌++◌, map, length, Option, Some, None, slice_get, refl, sym, ap, ◌∙◌, subst, arith, append_assoc, append-nil, length-append}
use Rattle.std.specs.List.{cons_option}
use Rattle.std.proofs.lemmas.List.{map-append}
use Rattle.std.proofs.lemmas.List.Elements.{filter_map-append}
use Rattle.std.proofs.lemmas.Bool.Decides.{nat_tests}
use Rattle.a429_word.specs.declared.bus.Bus.{Bus}
use Rattle.a429_word.specs.declared.bus.Bus.TheVariants as bus
use Rattle.a429_profile.specs.Profile.{Contents}
use Rattle.a429_ldu.specs.declared.forms.Form.{Form}
use Rattle.a429_ldu.specs.declared.forms.Form.TheVariants as form
use Rattle.a429_ldu.specs.Carried.{bytes_in}
use Rattle.a429_ldu.specs.Form.{form_of}
use Rattle.a429_ldu.specs.Ldu.{LduValue, is_final}
use Rattle.a429_link.specs.declared.file.FileBytes.{FileBytes}
use Rattle.a429_link.specs.declared.number.UnitNumber.{UnitNumber}
use Rattle.a429_link.specs.declared.seen.Seen.{Seen}
use Rattle.a429_link.specs.declared.state.SourceState.{SourceState}
use Rattle.a429_link.specs.declared.state.SourceState.TheVariants.{Awaiting, Waiting}
use Rattle.a429_link.specs.declared.step.Step.{Step}
use Rattle.a429_link.specs.declared.step.Step.TheVariants.{Answered, FreeSeen, GiveUp, Load, LoseAnswer, Sent, SentLost, Silent, SinkTakes, TakeAnswer, TimeOut}
use Rattle.a429_link.specs.Number.{is_number}
use Rattle.a429_link.specs.Source.{Source, acknowledged, with_answer, with_answer_first, with_answer_form}
use Rattle.a429_link.specs.Sink.{Block, MayAnswerForm, Number, Received, Sink, SinkPhase, accepts, accepts_owed, answers_form, nothing_received, is_same, number_of, put, received_for, takes_first}
use Rattle.a429_link.specs.State.{State, start}
use Rattle.a429_link.specs.Step.{Can, after, label}
use Rattle.a429_link.specs.Run.{IsRun, end_of, offers, settles, trace, with_label}
use Rattle.a429_link.proofs.Message.{IsRead, Ack, Message, MaySay}
use Rattle.a429_link.proofs.MessageRead.{is_read}
use Rattle.a429_link.proofs.NumberFacts.{number_same}
use Rattle.a429_link.proofs.StateConfigs.{Config, Whole, idle, asked, unasked, sending, waiting, whole, may_owes, owes_stale, owes_grant}
use Rattle.a429_link.proofs.StateHolds.{step_holds}
use Rattle.a429_link.proofs.SinkFromTrace.{takes_received}
use Rattle.a429_link.proofs.SinkShelves.{past_new, received_for_files}
use Rattle.a429_link.proofs.RunCrossing.{Books, Stand, start_books, step_crosses, takes_last}
use Rattle.a429_record.specs.declared.entry.Entry.{Entry}
use Rattle.a429_cert.specs.declared.act.Act.{Act}
use Rattle.a429_cert.specs.declared.act.Act.TheVariants as act
use Rattle.a429_cert.specs.Explained.{items_of, seen_of}
use Rattle.a429_cert.specs.Version.{read_as}
use Rattle.a429_cert.specs.Report.{Report, Loads, Makes, entry_numbered, report_of, reports_of_steps, with_number}
use Rattle.a429_cert.proofs.ExplainedFacts.{in_every_run, lists_run}
use Rattle.a429_view.specs.declared.mark.Mark.{Mark}
use Rattle.a429_view.specs.declared.mark.Mark.TheVariants as mark
use Rattle.a429_view.specs.declared.mark.Recorded.{Recorded}
use Rattle.a429_view.specs.declared.mark.Span.{Span}
use Rattle.a429_view.specs.declared.sketch.Place.{Place}
use Rattle.a429_view.specs.Units.{is_ack_form}
use Rattle.a429_view.specs.Mark.{acknowledges, before_all, crossing, file_ended, is_within, listed, marks, past, shown, still_due, unseen}
use Rattle.a429_view.specs.Crossings.{ExplainedRun, HasAll, RunOver, crossings, delivered_over, file_crossing, numbers, rows_explained, rows_over}

-- ---- rows

-- those that say no file crosses add no number
no_number : (xs : List FileBytes) (rows : List Mark) → crossings rows ≡ [] → numbers xs ≡ numbers xs ++ crossings rows
no_number xs rows e = sym (append-nil (numbers xs)) ∙ ap (λ (l : List ℕ). numbers xs ++ l) (sym e)

load_says : (b : Bool) (n : UnitNumber) → crossings (cond b (listed (Some (mark.Load n))) []) ≡ []
load_says false n = refl
load_says true n = refl

unseen_says : (b : Bool) (a : Act) → crossings (cond b (listed (unseen a)) []) ≡ []
unseen_says false a = refl
unseen_says true act.SinkTakes = refl
unseen_says true act.TakeAnswer = refl
unseen_says true _ = refl

seen_says : (b : Bool) (r : Recorded) → r.crosses ≡ None → crossings (cond b (listed (Some (mark.Seen r))) []) ≡ []
seen_says false r e = refl
seen_says true r e = ap (λ (o : Option ℕ). cons_option o []) e

within_says : (b : Bool) (r : Recorded) → b ≡ true → crossings (cond b (listed (Some (mark.Seen r))) []) ≡ cons_option r.crosses []
within_says true r e = refl
within_says false r e = absurd (cc e)

-- ---- which file is due

-- the file that ends with the link data unit of the source, while the sink has not accepted it
abbrev DueAt : Contents → UnitNumber → Option LduValue → Option Number → Option ℕ → Type 0
DueAt p number None last due = Unit {0}
DueAt p number (Some u) last due = due ≡ cond (is_same last number) None (file_ended p.codes number u)

abbrev DueBy : Contents → Source → Option Number → Option ℕ → Type 0
DueBy p source last due = DueAt p source.number source.current last due

-- a unit that is loaded is new to the sink
load_due : (p : Contents) (s : State) (u : LduValue) (o : Received) (fs : List FileBytes)
    → s.source.current ≡ None → Books p s o fs → DueAt p s.source.number (Some u) s.sink.last (file_ended p.codes s.source.number u)
load_due p s u o fs n b =
    let place_after = subst (λ x. Stand p s.source.number s.source.give_ups x s.sink.last s.sink.received o fs) n b.crosses.stand in
    let new = past_new s.sink.last s.source.number s.source.give_ups b.crosses.few place_after.past in
    sym (ap (λ (t : Bool). cond t None (file_ended p.codes s.source.number u)) new)

-- an answer that the source takes leaves its unit, or ends it
either : (p : Contents) (s t : Source) (b : Bool) (last : Option Number) (due : Option ℕ)
    → DueBy p s last due → DueBy p t last due → DueBy p (cond b s t) last due
either p s t true last due h k = h
either p s t false last due h k = k

with_answer_due : (p : Contents) (cur : Option LduValue) (sp : SourceState) (x : Form) (s : Source) (last : Option Number) (due : Option ℕ)
    → DueBy p s last due → DueBy p (with_answer p.codes cur sp x s) last due
with_answer_due p (Some u) Awaiting (form.Cts n) s last due h = either p _ s _ last due h h
with_answer_due p (Some u) Waiting (form.Ack f l) s last due h = either p (acknowledged p.codes u s) s _ last due tt h
with_answer_due p (Some u) Waiting (form.Nak bits) s last due h = h
with_answer_due p _ _ _ s last due h = h

form_due : (p : Contents) (o : Option Form) (s : Source) (last : Option Number) (due : Option ℕ)
    → DueBy p s last due → DueBy p (with_answer_form p.codes o s) last due
form_due p None s last due h = h
form_due p (Some x) s last due h = with_answer_due p s.current s.phase x s last due h

first_due : (p : Contents) (ws : List ℕ) (s : Source) (last : Option Number) (due : Option ℕ)
    → DueBy p s last due → DueBy p (with_answer_first p.codes ws s) last due
first_due p [] s last due h = h
first_due p (w ∷ ws) s last due h = form_due p (form_of p.codes bus.B w) s last due h

takes_keeps : (p : Contents) (ws : List ℕ) (k : Sink) → ((takes_first p ws k).last ≡ k.last) × ((takes_first p ws k).received ≡ k.received)
takes_keeps p [] k = (refl, refl)
takes_keeps p (w ∷ ws) k = (takes_last p w (form_of p.codes bus.A w) k, takes_received p w (form_of p.codes bus.A w) k)

-- ---- an answer

-- the sink delivers the file that crosses, and none else; what is due then
record Answers (p : Contents) (number : UnitNumber) (cur : Option LduValue) (old new : Sink) (due : Option ℕ)
    (acknowledged : Bool) : Type 0 where
  next : DueAt p number cur new.last (still_due acknowledged due)
  gives : numbers new.received.files ≡ numbers old.received.files ++ cons_option (crossing acknowledged due) []

put_numbers : (file : ℕ) (bytes : List ℕ) (t : Bool) (s : Received)
    → numbers (put file bytes t s).files ≡ numbers s.files ++ cons_option (cond t (Some file) None) []
put_numbers file bytes true s =
    map-append (λ (f : FileBytes). f.number) s.files (record { number = file; bytes = s.open_bytes ++ bytes } ∷ [])
put_numbers file bytes false s = sym (append-nil (numbers s.files))

-- the block of the source's unit is accepted
accepted : (p : Contents) (number : UnitNumber) (u : LduValue) (b : Block) (fl : ℕ) (k : Sink) (due : Option ℕ)
    → Whole u number b fl → DueAt p number (Some u) k.last due → Answers p number (Some u) k (accepts p.codes b fl k) due true
accepted p number u b fl k due w d = by (is_same k.last (number_of b)) refl
  where
    kept : Received
    kept = received_for k.last b.file k.received

    here : (t : Bool) → is_same k.last (number_of b) ≡ t → due ≡ cond t None (file_ended p.codes number u)
    here t e = d ∙ ap (λ (q : Bool). cond q None (file_ended p.codes number u)) (ap (is_same k.last) (sym w.told) ∙ e)

    same : is_number (number_of b) number ≡ true
    same = ap (λ (n : UnitNumber). is_number n number) w.told ∙ number_same number

    ends : cond (is_final p.codes fl) (Some b.file) None ≡ file_ended p.codes number u
    ends = ap (λ (q : ℕ). cond (is_final p.codes q) (Some b.file) None) w.flags
        ∙ ap (λ (n : UnitNumber). cond (is_final p.codes u.flags) (Some n.file) None) w.told

    by : (t : Bool) → is_same k.last (number_of b) ≡ t
        → Answers p number (Some u) k
        (cond t k (record k {
          last = Some (record { number = number_of b; final = is_final p.codes fl });
          received = put b.file (bytes_in p.codes b.words) (is_final p.codes fl) kept;
        })) due true
    by true e = record {
      next = sym (ap (λ (q : Bool). cond q None (file_ended p.codes number u)) (ap (is_same k.last) (sym w.told) ∙ e));
      gives = sym (append-nil (numbers k.received.files))
          ∙ ap (λ (o : Option ℕ). numbers k.received.files ++ cons_option o []) (sym (here true e));
    }
    by false e = record {
      next = sym (ap (λ (q : Bool). cond q None (file_ended p.codes number u)) same);
      gives =
          put_numbers b.file (bytes_in p.codes b.words) (is_final p.codes fl) kept
          ∙ ap (λ (l : List FileBytes). numbers l ++ cons_option (cond (is_final p.codes fl) (Some b.file) None) [])
          (received_for_files k.last b.file k.received)
          ∙ ap (λ (o : Option ℕ). numbers k.received.files ++ cons_option o []) (ends ∙ sym (here false e));
    }

-- the sink acknowledges only the unit of the source
acknowledges_own : (p : Contents) (number : UnitNumber) (cur : Option LduValue) (sp : SourceState) (count : ℕ) (kp : SinkPhase)
    (xs ys : List Message) (k : Sink) (due : Option ℕ) (f l : ℕ)
    → MaySay count kp (Ack f l) → Config number cur sp count kp xs ys → DueAt p number cur k.last due
    → Answers p number cur k (accepts_owed p.codes kp k) due true
acknowledges_own p number cur sp count kp xs ys k due f l m (whole {u} {b} {flags} r h) d = accepted p number u b flags k due h d
acknowledges_own p number cur sp count kp xs ys k due f l m (idle r s) d = absurd (owes_stale kp (may_owes count kp (Ack f l) m) s)
acknowledges_own p number cur sp count kp xs ys k due f l m (asked r s q) d = absurd (owes_stale kp (may_owes count kp (Ack f l) m) s)
acknowledges_own p number cur sp count kp xs ys k due f l m (unasked r s) d = absurd (owes_stale kp (may_owes count kp (Ack f l) m) s)
acknowledges_own p number cur sp count kp xs ys k due f l m (sending r i q le h) d =
    absurd (owes_grant kp (may_owes count kp (Ack f l) m) i)
acknowledges_own p number cur sp count kp xs ys k due f l m (waiting r i q h) d = absurd (owes_grant kp (may_owes count kp (Ack f l) m) i)
acknowledges_own p number cur sp count kp xs ys k due f l m _ d = absurd m

answers_so : (p : Contents) (source : Source) (xs ys : List Message) (k : Sink) (due : Option ℕ) (x : Option Form)
    → MayAnswerForm k.count k.phase x → Config source.number source.current source.phase k.count k.phase xs ys → DueBy p source k.last due
    → Answers p source.number source.current k (answers_form p.codes x k) due (is_ack_form x)
answers_so p source xs ys k due (Some (form.Ack f l)) m c d =
    let a = acknowledges_own p source.number source.current source.phase k.count k.phase xs ys k due f l m c d in
    record { next = a.next; gives = a.gives }
answers_so p source xs ys k due None m c d = absurd m
answers_so p source xs ys k due (Some _) m c d = record { next = d; gives = sym (append-nil (numbers k.received.files)) }

-- ---- a step

-- the entry that a step records
record NextEntry (es : List Entry) (i : ℕ) (item : Seen) : Type 0 where
  entry : Entry
  found : slice_get es i ≡ Some entry
  is : seen_of entry ≡ item
  inside : suc i ≤ length es

abbrev IsNext : List Entry → ℕ → Option Seen → Type 0
IsNext es i None = Unit {0}
IsNext es i (Some item) = NextEntry es i item

next_entry : (es : List Entry) (before : List Seen) (item : Seen) (more : List Seen)
    → items_of es ≡ before ++ item ∷ more → NextEntry es (length before) item
next_entry [] [] item more e = absurd (cc e)
next_entry [] (b ∷ before) item more e = absurd (cc e)
next_entry (x ∷ es) [] item more e = record { entry = x; found = refl; is = cc; inside = omega arith }
next_entry (x ∷ es) (b ∷ before) item more e =
    let tail : items_of es ≡ before ++ item ∷ more = cc in
    let n = next_entry es before item more tail in
    let inside = n.inside in
    record { entry = n.entry; found = n.found; is = n.is; inside = omega arith }

next_is : (es : List Entry) (before : List Seen) (l : Option Seen) (more later : List Seen)
    → items_of es ≡ before ++ (with_label l more ++ later) → IsNext es (length before) l
next_is es before None more later e = tt
next_is es before (Some item) more later e = next_entry es before item (more ++ later) e

-- each entry lies in the span
inside_span : (span : Span) (es : List Entry) (next i : ℕ) → HasAll span es → next ≡ i → suc i ≤ length es → is_within span next ≡ true
inside_span span es next i all e l =
    let from = all.0 in
    let to = all.1 in
    grind (arith, nat_tests, from, to, e, l)

-- the place goes on, and the row of the step names the file that the step delivers
record Goes (p : Contents) (span : Span) (a : Step) (s : State) (i : ℕ) (at : Place) (t : Report) : Type 0 where
  next : (past p.codes at t).next ≡ i + length (trace (a ∷ []))
  due : DueBy p (after p a s).source (after p a s).sink.last (past p.codes at t).due
  gives : numbers (after p a s).sink.received.files ≡ numbers s.sink.received.files ++ crossings (shown p.codes span at t)

-- a step that records nothing, and leaves the files
unseen_goes : (p : Contents) (span : Span) (a : Step) (s : State) (i : ℕ) (at : Place) (x : Act)
    → at.next ≡ i → length (trace (a ∷ [])) ≡ 0 → DueBy p (after p a s).source (after p a s).sink.last at.due
    → (after p a s).sink.received.files ≡ s.sink.received.files
    → Goes p span a s i at (Makes x None)
unseen_goes p span a s i at x n z d f = record {
  next = omega (arith, n, z);
  due = d;
  gives = ap numbers f
      ∙ no_number s.sink.received.files (cond (is_within span at.next) (listed (unseen x)) []) (unseen_says (is_within span at.next) x);
}

-- a step that records a word which is no acknowledgement, and leaves the files
seen_goes : (p : Contents) (es : List Entry) (span : Span) (a : Step) (s : State) (item : Seen) (i : ℕ) (at : Place) (x : Act)
    → at.next ≡ i → length (trace (a ∷ [])) ≡ 1 → NextEntry es i item → ((e : Entry) → acknowledges p.codes x e ≡ false)
    → DueBy p (after p a s).source (after p a s).sink.last at.due → (after p a s).sink.received.files ≡ s.sink.received.files
    → Goes p span a s i at (Makes x (entry_numbered es i))
seen_goes p es span a s item i at x n z h none d f =
    let t = Makes x (Some (i, h.entry)) in
    let no = none h.entry in
    subst (λ (o : Option Entry). Goes p span a s i at (Makes x (with_number i o))) (sym h.found)
    (record {
      next = omega (arith, z);
      due = subst (λ (b : Bool). DueBy p (after p a s).source (after p a s).sink.last (still_due b at.due)) (sym no) d;
      gives = ap numbers f ∙ no_number s.sink.received.files (shown p.codes span at t)
          (seen_says (is_within span at.next) _ (ap (λ (b : Bool). crossing b at.due) no));
    })

answered_goes : (p : Contents) (es : List Entry) (span : Span) (s : State) (item : Seen) (i : ℕ) (at : Place) (o : Received)
    (fs : List FileBytes)
    → HasAll span es → Can p (Answered item) s → Books p s o fs → at.next ≡ i → NextEntry es i item → DueBy p s.source s.sink.last at.due
    → Goes p span (Answered item) s i at (report_of es s i (Answered item))
answered_goes p es span s item i at o fs all can b n h d =
    let x = form_of p.codes bus.B item.word in
    let a = answers_so p s.source b.holds.xs b.holds.ys s.sink at.due x can.1 b.holds.fits d in
    let bus_is : h.entry.bus ≡ bus.B = ap (λ (q : Seen). q.bus) h.is ∙ can.0 in
    let word_is : h.entry.word ≡ item.word = ap (λ (q : Seen). q.word) h.is in
    let form_is : form_of p.codes h.entry.bus h.entry.word ≡ x =
    ap (λ (q : Bus). form_of p.codes q h.entry.word) bus_is ∙ ap (form_of p.codes bus.B) word_is in
    let ack_is : is_ack_form (form_of p.codes h.entry.bus h.entry.word) ≡ is_ack_form x = ap is_ack_form form_is in
    subst (λ (e : Option Entry). Goes p span (Answered item) s i at (Makes act.Answered (with_number i e))) (sym h.found)
    (record {
      next = refl;
      due = subst (λ (t : Bool). DueBy p s.source (answers_form p.codes x s.sink).last (still_due t at.due)) (sym ack_is) a.next;
      gives =
          a.gives
          ∙ ap (λ (t : Bool). numbers s.sink.received.files ++ cons_option (crossing t at.due) []) (sym ack_is)
          ∙ ap (λ (l : List ℕ). numbers s.sink.received.files ++ l)
          (sym (within_says (is_within span at.next) _ (inside_span span es at.next i all n h.inside)));
    })

step_goes : (p : Contents) (es : List Entry) (span : Span) (a : Step) (s : State) (i : ℕ) (at : Place) (o : Received) (fs : List FileBytes)
    → HasAll span es → Can p a s → Books p s o fs → at.next ≡ i → IsNext es i (label a) → DueBy p s.source s.sink.last at.due
    → Goes p span a s i at (report_of es s i a)
step_goes p es span (Load u) s i at o fs all can b n h d =
    record {
      next = omega (arith, n);
      due = load_due p s u o fs can.1 b;
      gives =
          no_number s.sink.received.files (shown p.codes span at (Loads s.source.number u))
          (load_says (is_within span at.next) s.source.number);
    }
step_goes p es span (Sent item) s i at o fs all can b n h d =
    seen_goes p es span (Sent item) s item i at act.Sent n refl h (λ e. refl) d refl
step_goes p es span SentLost s i at o fs all can b n h d = unseen_goes p span SentLost s i at act.SentLost n refl d refl
step_goes p es span TimeOut s i at o fs all can b n h d = unseen_goes p span TimeOut s i at act.TimeOut n refl d refl
step_goes p es span TakeAnswer s i at o fs all can b n h d =
    unseen_goes p span TakeAnswer s i at act.TakeAnswer n refl (first_due p s.to_source s.source s.sink.last at.due d) refl
step_goes p es span LoseAnswer s i at o fs all can b n h d = unseen_goes p span LoseAnswer s i at act.LoseAnswer n refl d refl
step_goes p es span SinkTakes s i at o fs all can b n h d =
    let keeps = takes_keeps p s.to_sink s.sink in
    unseen_goes p span SinkTakes s i at act.SinkTakes n refl (subst (λ (l : Option Number). DueBy p s.source l at.due) (sym keeps.0) d)
    (ap (λ (q : Received). q.files) keeps.1)
step_goes p es span Silent s i at o fs all can b n h d = unseen_goes p span Silent s i at act.Silent n refl d refl
step_goes p es span (Answered item) s i at o fs all can b n h d = answered_goes p es span s item i at o fs all can b n h d
step_goes p es span (FreeSeen item) s i at o fs all can b n h d =
    seen_goes p es span (FreeSeen item) s item i at act.FreeSeen n refl h (λ e. refl) d refl
step_goes p es span GiveUp s i at o fs all can b n h d = unseen_goes p span GiveUp s i at act.GiveUp n refl tt refl

-- ---- steps, one after the other

label_push : (l : Option Seen) (items : List Seen) → with_label l items ≡ with_label l [] ++ items
label_push None items = refl
label_push (Some i) items = refl

run_goes : (p : Contents) → IsRead p → (es : List Entry) (span : Span) → HasAll span es
    → (steps : List Step) (s : State) (o : Received) (fs : List FileBytes) (before later : List Seen) (at : Place) (i : ℕ)
    → i ≡ length before → IsRun p steps s → Books p s o fs → items_of es ≡ before ++ (trace steps ++ later) → at.next ≡ i
    → DueBy p s.source s.sink.last at.due
    → numbers (end_of p steps s).sink.received.files ≡ numbers s.sink.received.files
    ++ crossings (marks p.codes span at (reports_of_steps p es steps s i))
run_goes p good es span all [] s o fs before later at i z h b e n d = sym (append-nil (numbers s.sink.received.files))
run_goes p good es span all (a ∷ steps) s o fs before later at i z h b e n d =
    let one = trace (a ∷ []) in
    let t = report_of es s i a in
    let files = numbers s.sink.received.files in
    let g =
    step_goes p es span a s i at o fs all h.0 b n
    (subst (λ (k : ℕ). IsNext es k (label a)) (sym z) (next_is es before (label a) (trace steps) later e)) d in
    let books : Books p (after p a s) (offers p a s o) (settles p a s o fs) =
    record { holds = step_holds p good a s h.0 b.holds; crosses = step_crosses p good a s o fs h.0 b.holds b.crosses } in
    let on : items_of es ≡ (before ++ one) ++ (trace steps ++ later) =
    e ∙ ap (λ (l : List Seen). before ++ (l ++ later)) (label_push (label a) (trace steps))
    ∙ ap (λ (l : List Seen). before ++ l) (append_assoc one (trace steps) later) ∙ sym (append_assoc before one (trace steps ++ later)) in
    let place : i + length one ≡ length (before ++ one) = omega (arith, z, length-append before one) in
    let rows = marks p.codes span (past p.codes at t) (reports_of_steps p es steps (after p a s) (i + length one)) in
    run_goes p good es span all steps (after p a s) (offers p a s o) (settles p a s o fs) (before ++ one) later (past p.codes at t)
    (i + length one) place h.1 books on g.next g.due
    ∙ ap (λ (l : List ℕ). l ++ crossings rows) g.gives
    ∙ append_assoc files (crossings (shown p.codes span at t)) (crossings rows)
    ∙ ap (λ (l : List ℕ). files ++ l) (sym (filter_map-append file_crossing (shown p.codes span at t) rows))

pub crossings_delivered : (p : Contents) (entries : List Entry) (span : Span) (r : RunOver p entries)
    → HasAll span entries → crossings (rows_over span r) ≡ numbers (delivered_over r)
crossings_delivered p entries span r all =
    let run = r.run.is_run in
    sym (run_goes p (is_read p run.sound) entries span all r.run.steps
    (start p r.run.first) nothing_received [] [] r.later before_all 0 refl run.run (start_books p r.run.first run.byte) r.records refl tt)

-- the run by which a certificate explains delivers the files of a yes
pub crossings_explained : (p : Contents) (entries : List Entry) (span : Span) (e : ExplainedRun p entries)
    → HasAll span entries → crossings (rows_explained span e) ≡ numbers e.files
crossings_explained p entries span e all =
    let x = e.explains in
    let run = lists_run p (map (read_as x.version) x.lines) e.steps (start p e.first) x.lists in
    let over : RunOver p entries = record {
      run = record { first = e.first; steps = e.steps; is_run = record { sound = e.sound; byte = x.byte; run = run } };
      later = [];
      records = sym x.used ∙ sym (append-nil (trace e.steps));
    } in
    let same = (in_every_run p e.sound e.certificate (items_of entries) e.files e.yes).delivered e.first e.steps x.byte run x.used in
    crossings_delivered p entries span over all ∙ ap numbers (sym same.0)
