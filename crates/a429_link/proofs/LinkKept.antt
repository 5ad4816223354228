-- The states of a link: files that were handed out change no step.
use Rattle.std.proofs.Common.{◌≡◌, ◌↔◌, ℕ, ◌≤◌, Bool, true, false, cond, List, [], ◌∷◌, ◌++◌, Option, Some, None, is_some, Result, Ok, Err, IfErr, refl, sym, ap, ◌∙◌, subst, arith, append_assoc, append-nil}
use Rattle.a429_ldu.specs.Carried.{bytes_in}
use Rattle.a429_word.specs.Word.{sum_below}
use Rattle.a429_word.specs.declared.bus.Bus.TheVariants as bus
use Rattle.a429_word.proofs.Outcomes.{some_value}
use Rattle.a429_ldu.specs.Form.{form_of, is_free, word_number}
use Rattle.a429_ldu.specs.Ldu.{LduValue, is_final}
use Rattle.a429_link.proofs.Message.{Message}
use Rattle.a429_link.specs.Run.{IsBounded, IsRun, end_of}
use Rattle.a429_link.specs.Sink.{Block, Granted, InBlock, MayAnswerForm, Number, Owes, OwesAck, OwesClear, OwesNak, Quiet, Received, Sink, SinkPhase, accepts, accepts_owed, answers_form, emptied, is_same, is_same_file, put, received_for, takes_first, takes_form, number_of}
use Rattle.a429_link.specs.Step.{Can, IsNamedStep, after, IsFault}
use Rattle.a429_link.specs.Source.{next_word_of}
use Rattle.a429_link.specs.State.{rest, start, State}
use Rattle.a429_link.specs.declared.file.FileBytes.{FileBytes}
use Rattle.a429_link.specs.declared.state.SourceState.{SourceState}
use Rattle.a429_link.specs.declared.step.Step.{Step}
use Rattle.a429_link.specs.declared.step.Step.TheVariants.{Answered, FreeSeen, GiveUp, Load, LoseAnswer, Sent, SentLost, Silent, SinkTakes, TakeAnswer, TimeOut}
use Rattle.a429_profile.specs.Profile.{Contents, IsProfile}
use Rattle.a429_profile.specs.declared.codes.Codes.{Codes}
use Rattle.a429_ldu.specs.declared.forms.Form.{Form}
use Rattle.a429_ldu.specs.declared.forms.Form.TheVariants as form
use Rattle.a429_ldu.proofs.FormFacts.{form_of-word_number}
use Rattle.a429_link.specs.declared.fault.StepFault.{StepFault}
use Rattle.a429_link.specs.declared.fault.StepFault.TheVariants as fault
use Rattle.a429_link.specs.Transfer.{IsReadyStep, IsFaultByName, Applies}
use Rattle.a429_link.specs.Link.{with_earlier, handed_out, IsKept}
use Rattle.a429_link.proofs.StateConfigs.{Config, idle, asked, unasked, heard, sending, waiting}
use Rattle.a429_link.proofs.StateHolds.{HoldsAt, Current, start_holds, holds_after}
use Rattle.a429_link.proofs.RunCrossing.{run_bounded}
use Rattle.a429_link.proofs.MessageRead.{is_read}
use Rattle.a429_link.specs.declared.number.UnitNumber.{UnitNumber}

-- ---- steps and earlier files

abbrev sink_with : List FileBytes → Sink → Sink
sink_with files k = record k { received = record (k.received) { files = files ++ k.received.files } }

takes_with : (p : Contents) (files : List FileBytes) (w : ℕ) (o : Option Form) (k : Sink)
    → takes_form p w o (sink_with files k) ≡ sink_with files (takes_form p w o k)
takes_with p files w None k = refl
takes_with p files w (Some (form.Rts n)) k = refl
takes_with p files w (Some (form.Cts n)) k = refl
takes_with p files w (Some (form.Ack f l)) k = refl
takes_with p files w (Some (form.Nak b)) k = refl
takes_with p files w (Some (form.Sot g f l)) k = refl
takes_with p files w (Some (form.Part s)) k = refl
takes_with p files w (Some (form.Eot f c)) k = refl

takes_first_with : (p : Contents) (files : List FileBytes) (ws : List ℕ) (k : Sink)
    → takes_first p ws (sink_with files k) ≡ sink_with files (takes_first p ws k)
takes_first_with p files [] k = refl
takes_first_with p files (w ∷ ws) k = takes_with p files w (form_of p.codes bus.A w) k

abbrev received_with : List FileBytes → Received → Received
received_with files s = record s { files = files ++ s.files }

put_with : (files : List FileBytes) (n : ℕ) (bytes : List ℕ) (t : Bool) (s : Received)
    → put n bytes t (received_with files s) ≡ received_with files (put n bytes t s)
put_with files n bytes true s =
    ap (λ (l : List FileBytes). put_on l) (append_assoc files s.files (record { number = n; bytes = s.open_bytes ++ bytes } ∷ []))
  where
    put_on : List FileBytes → Received
    put_on l = record { files = l; open_bytes = [] }
put_with files n bytes false s = refl

received_for_with : (files : List FileBytes) (last : Option Number) (n : ℕ) (s : Received)
    → received_for last n (received_with files s) ≡ received_with files (received_for last n s)
received_for_with files last n s = by_file (is_same_file last n)
  where
    by_file : (t : Bool) → cond t (received_with files s) (emptied (received_with files s)) ≡ received_with files (cond t s (emptied s))
    by_file true = refl
    by_file false = refl

accepts_with : (c : Codes) (files : List FileBytes) (b : Block) (flags : ℕ) (k : Sink)
    → accepts c b flags (sink_with files k) ≡ sink_with files (accepts c b flags k)
accepts_with c files b flags k = by_same (is_same k.last (number_of b))
  where
    taken_in : Received → Sink
    taken_in s = record k { last = Some (record { number = number_of b; final = is_final c flags }); received = s }

    by_same : (t : Bool)
        → cond t (sink_with files k) (record (sink_with files k) {
          last = Some (record { number = number_of b; final = is_final c flags });
          received = put b.file (bytes_in c b.words) (is_final c flags) (received_for k.last b.file (received_with files k.received));
        }) ≡ sink_with files
        (cond t k (record k {
          last = Some (record { number = number_of b; final = is_final c flags });
          received = put b.file (bytes_in c b.words) (is_final c flags) (received_for k.last b.file k.received);
        }))
    by_same true = refl
    by_same false =
        ap taken_in (ap (put b.file (bytes_in c b.words) (is_final c flags)) (received_for_with files k.last b.file k.received)
        ∙ put_with files b.file (bytes_in c b.words) (is_final c flags) (received_for k.last b.file k.received))

accepts_owed_with : (c : Codes) (files : List FileBytes) (kp : SinkPhase) (k : Sink)
    → accepts_owed c kp (sink_with files k) ≡ sink_with files (accepts_owed c kp k)
accepts_owed_with c files (OwesAck b flags) k = accepts_with c files b flags k
accepts_owed_with c files Quiet k = refl
accepts_owed_with c files OwesClear k = refl
accepts_owed_with c files Granted k = refl
accepts_owed_with c files (InBlock b) k = refl
accepts_owed_with c files OwesNak k = refl

answers_with : (c : Codes) (files : List FileBytes) (o : Option Form) (k : Sink)
    → answers_form c o (sink_with files k) ≡ sink_with files (answers_form c o k)
answers_with c files None k = refl
answers_with c files (Some (form.Rts n)) k = refl
answers_with c files (Some (form.Cts n)) k = refl
answers_with c files (Some (form.Ack f l)) k = ap (λ (x : Sink). quiet x) (accepts_owed_with c files k.phase k)
  where
    quiet : Sink → Sink
    quiet x = record x { phase = Quiet }
answers_with c files (Some (form.Nak b)) k = refl
answers_with c files (Some (form.Sot g f l)) k = refl
answers_with c files (Some (form.Part s)) k = refl
answers_with c files (Some (form.Eot f ch)) k = refl

-- a step leads to the same state, with the earlier files
pub after_earlier : (p : Contents) (a : Step) (files : List FileBytes) (s : State)
    → after p a (with_earlier files s) ≡ with_earlier files (after p a s)
after_earlier p (Load u) files s = refl
after_earlier p (Sent i) files s = refl
after_earlier p SentLost files s = refl
after_earlier p TimeOut files s = refl
after_earlier p TakeAnswer files s = refl
after_earlier p LoseAnswer files s = refl
after_earlier p SinkTakes files s = ap (λ (k : Sink). state_of k) (takes_first_with p files s.to_sink s.sink)
  where
    state_of : Sink → State
    state_of k = record s { sink = k; to_sink = rest s.to_sink }
after_earlier p Silent files s = refl
after_earlier p (Answered i) files s = ap (λ (k : Sink). state_of k) (answers_with p.codes files (form_of p.codes bus.B i.word) s.sink)
  where
    state_of : Sink → State
    state_of k = record s { sink = k; to_source = s.to_source ++ i.word ∷ [] }
after_earlier p (FreeSeen i) files s = refl
after_earlier p GiveUp files s = refl

-- and may be made in both or in none
pub can_earlier : (p : Contents) (a : Step) (files : List FileBytes) (s : State) → Can p a s → Can p a (with_earlier files s)
can_earlier p (Load u) files s h = h
can_earlier p (Sent i) files s h = h
can_earlier p SentLost files s h = h
can_earlier p TimeOut files s h = h
can_earlier p TakeAnswer files s h = h
can_earlier p LoseAnswer files s h = h
can_earlier p SinkTakes files s h = h
can_earlier p Silent files s h = h
can_earlier p (Answered i) files s h = h
can_earlier p (FreeSeen i) files s h = h
can_earlier p GiveUp files s h = h

pub can_later : (p : Contents) (a : Step) (files : List FileBytes) (s : State) → Can p a (with_earlier files s) → Can p a s
can_later p (Load u) files s h = h
can_later p (Sent i) files s h = h
can_later p SentLost files s h = h
can_later p TimeOut files s h = h
can_later p TakeAnswer files s h = h
can_later p LoseAnswer files s h = h
can_later p SinkTakes files s h = h
can_later p Silent files s h = h
can_later p (Answered i) files s h = h
can_later p (FreeSeen i) files s h = h
can_later p GiveUp files s h = h

-- ---- runs, and one step more

pub end_push : (p : Contents) (steps : List Step) (a : Step) (s : State) → end_of p (steps ++ a ∷ []) s ≡ after p a (end_of p steps s)
end_push p [] a s = refl
end_push p (b ∷ steps) a s = end_push p steps a (after p b s)

pub run_push : (p : Contents) (steps : List Step) (a : Step) (s : State)
    → IsRun p steps s → Can p a (end_of p steps s) → IsRun p (steps ++ a ∷ []) s
run_push p [] a s h c = (c, tt)
run_push p (b ∷ steps) a s h c = (h.0, run_push p steps a (after p b s) h.1 c)

-- ---- a link's states

pub kept_start : (p : Contents) (first : ℕ) → IsProfile p → first ≤ 255 → IsKept p (start p first)
kept_start p first is l =
    record { sound = is; earlier = []; reached = record { first = first; byte = l; steps = []; run = tt; ends = refl } }

pub kept_step : (p : Contents) (a : Step) (s : State) → IsKept p s → Can p a s → IsKept p (after p a s)
kept_step p a s h c =
    let r = h.reached in
    record {
      sound = h.sound;
      earlier = h.earlier;
      reached = record {
        first = r.first;
        byte = r.byte;
        steps = r.steps ++ a ∷ [];
        run = run_push p r.steps a (start p r.first) r.run (subst (Can p a) (sym r.ends) (can_earlier p a h.earlier s c));
        ends = end_push p r.steps a (start p r.first) ∙ ap (after p a) r.ends ∙ after_earlier p a h.earlier s;
      };
    }

pub kept_taken : (p : Contents) (s : State) → IsKept p s → IsKept p (handed_out s)
kept_taken p s h =
    let r = h.reached in
    record {
      sound = h.sound;
      earlier = h.earlier ++ s.sink.received.files;
      reached = record {
        first = r.first;
        byte = r.byte;
        steps = r.steps;
        run = r.run;
        ends = r.ends ∙ ap (λ (l : List FileBytes). filed l) (sym (append-nil (h.earlier ++ s.sink.received.files)));
      };
    }
  where
    filed : List FileBytes → State
    filed l = record s { sink = record (s.sink) { received = record (s.sink.received) { files = l } } }

pub kept_bounded : (p : Contents) (s : State) → IsKept p s → IsBounded s
kept_bounded p s h =
    let r = h.reached in
    let b = subst IsBounded r.ends (run_bounded p r.first r.steps (is_read p h.sound) r.byte r.run) in
    record { sent = b.sent; took = b.took; words = b.words; answers = b.answers; bytes = b.bytes }

pub kept_holds : (p : Contents) (s : State) → IsKept p s → HoldsAt p s
kept_holds p s h =
    let r = h.reached in
    let good = is_read p h.sound in
    let b = subst (HoldsAt p) r.ends (holds_after p good r.steps (start p r.first) r.run (start_holds p r.first r.byte)) in
    record {
      xs = b.xs;
      ys = b.ys;
      sink_words = b.sink_words;
      source_words = b.source_words;
      file = b.file;
      current = b.current;
      fits = b.fits;
    }

-- ---- steps by name

-- the count of a clear answer that is owed
owed_count : (p : Contents) (number : UnitNumber) (cur : Option LduValue) (sp : SourceState) (count : ℕ) (xs ys : List Message)
    → Current p cur number.ldu → Config number cur sp count OwesClear xs ys → (3 ≤ count) × (count ≤ 255)
owed_count p number cur sp count xs ys c (heard {u} r q) = let some = c.0.some in let room = c.0.room in (omega arith, omega arith)
owed_count p number cur sp count xs ys c (idle f s) = absurd s
owed_count p number cur sp count xs ys c (asked r s q) = absurd s
owed_count p number cur sp count xs ys c (unasked r s) = absurd s
owed_count p number cur sp count xs ys c (sending r g q le h) = absurd g
owed_count p number cur sp count xs ys c (waiting r g q h) = absurd g

-- a word that the sink owes
owed_word : (p : Contents) → IsProfile p → (s : State) → HoldsAt p s → (kp : SinkPhase) → s.sink.phase ≡ kp → Owes kp
    → (w : ℕ) × MayAnswerForm s.sink.count kp (form_of p.codes bus.B w)
owed_word p is s h OwesClear e o =
    let range =
    owed_count p s.source.number s.source.current s.source.phase s.sink.count h.xs h.ys h.current
    (subst (λ q. Config s.source.number s.source.current s.source.phase s.sink.count q h.xs h.ys) e h.fits) in (
      word_number p.codes (form.Cts s.sink.count),
      subst (MayAnswerForm s.sink.count OwesClear) (sym (form_of-word_number p is (form.Cts s.sink.count) range)) refl,
    )
owed_word p is s h (OwesAck b flags) e o = (
  word_number p.codes (form.Nak 0),
  subst (MayAnswerForm s.sink.count (OwesAck b flags)) (sym (form_of-word_number p is (form.Nak 0) (omega arith))) tt,
)
owed_word p is s h OwesNak e o = (
  word_number p.codes (form.Nak 0),
  subst (MayAnswerForm s.sink.count OwesNak) (sym (form_of-word_number p is (form.Nak 0) (omega arith))) tt,
)
owed_word p is s h Quiet e o = absurd o
owed_word p is s h Granted e o = absurd o
owed_word p is s h (InBlock b) e o = absurd o

-- a word of which no bit is set is free: its parity is wrong
pub free_word : (c : Codes) → is_free c bus.A 0 ≡ true
unfolding sum_below
free_word c = refl

pub named_if_ready : (p : Contents) → IsProfile p → (a : Step) (s : State) → HoldsAt p s → IsReadyStep p a s → IsNamedStep p a s
named_if_ready p is (Load u) s h r = r
named_if_ready p is (Sent i) s h r =
    let next = some_value (next_word_of p s.source) r in (record { bus = bus.A; word = next.0 }, (refl, next.1))
named_if_ready p is SentLost s h r = r
named_if_ready p is TimeOut s h r = r
named_if_ready p is TakeAnswer s h r = r
named_if_ready p is LoseAnswer s h r = r
named_if_ready p is SinkTakes s h r = r
named_if_ready p is Silent s h r = r
named_if_ready p is (Answered i) s h r =
    let owed = owed_word p is s h s.sink.phase refl r in (record { bus = bus.B; word = owed.0 }, (refl, owed.1))
named_if_ready p is (FreeSeen i) s h r = (record { bus = bus.A; word = 0 }, free_word p.codes)
named_if_ready p is GiveUp s h r = r

owes_form : (count : ℕ) (kp : SinkPhase) (o : Option Form) → MayAnswerForm count kp o → Owes kp
owes_form count kp None m = absurd m
owes_form count OwesClear (Some x) m = tt
owes_form count (OwesAck b f) (Some x) m = tt
owes_form count OwesNak (Some x) m = tt
owes_form count Quiet (Some x) m = m
owes_form count Granted (Some x) m = m
owes_form count (InBlock b) (Some x) m = m

ready_if_named : (p : Contents) (a : Step) (s : State) → IsNamedStep p a s → IsReadyStep p a s
ready_if_named p (Load u) s h = h
ready_if_named p (Sent i) s h = ap is_some h.1.1
ready_if_named p SentLost s h = h
ready_if_named p TimeOut s h = h
ready_if_named p TakeAnswer s h = h
ready_if_named p LoseAnswer s h = h
ready_if_named p SinkTakes s h = h
ready_if_named p Silent s h = h
ready_if_named p (Answered i) s h = owes_form s.sink.count s.sink.phase (form_of p.codes bus.B h.0.word) h.1.1
ready_if_named p (FreeSeen i) s h = tt
ready_if_named p GiveUp s h = h

pub named_when_ready : (p : Contents) (a : Step) (s : State) → IsKept p s → IsReadyStep p a s ↔ IsNamedStep p a s
named_when_ready p a s k = (named_if_ready p k.sound a s (kept_holds p s k), ready_if_named p a s)

pub fault_by_name : (p : Contents) (a : Step) (s : State) (e : StepFault) → IsKept p s → IsFaultByName p a s e → IsFault p a s e
fault_by_name p a s fault.NotAllowed k h = λ n. h (ready_if_named p a s n)
fault_by_name p a s fault.WordDiffers k h = (named_if_ready p k.sound a s (kept_holds p s k) h.0, h.1)
fault_by_name p a s fault.OutOfMemory k h = h

-- ---- a link after a step that is made or refused

pub kept_after : {T : Type 0} (p : Contents) (a : Step) (s t : State) (r : Result T StepFault) → IsKept p s → Applies p a s t r → IsKept p t
kept_after p a s t (Ok u) k h = subst (IsKept p) (sym h.1) (kept_step p a s k h.0)
kept_after p a s t (Err e) k h = subst (IsKept p) (sym h.1) k

pub fault_after : {T : Type 0} (p : Contents) (a : Step) (s t : State) (r : Result T StepFault)
    → IsKept p s → Applies p a s t r → IfErr r (λ e. IsFault p a s e)
fault_after p a s t (Ok u) k h = tt
fault_after p a s t (Err e) k h = fault_by_name p a s e k h.0
