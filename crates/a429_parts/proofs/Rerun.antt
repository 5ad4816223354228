-- After a place where a file has crossed: the words that a run records from there on are recorded by a run of their own.
use Rattle.std.proofs.Common.{◌≡◌, ◌≢◌, ℕ, zero, suc, ◌+◌, ◌-◌, ◌%◌, ◌≤◌, Bool, true, false, cond, eqb, List, [], ◌∷◌, ◌++◌, Option, Some, None, IsSome, refl, sym, ap, ◌∙◌, subst, inl, inr, arith, append-nil}
use Rattle.a429_word.specs.declared.bus.Bus.{Bus}
use Rattle.a429_word.specs.declared.bus.Bus.TheVariants as bus
use Rattle.a429_profile.specs.declared.codes.Codes.{Codes}
use Rattle.a429_profile.specs.Profile.{Contents}
use Rattle.a429_ldu.specs.declared.forms.Form.{Form}
use Rattle.a429_ldu.specs.declared.forms.Form.TheVariants as form
use Rattle.a429_ldu.specs.Form.{form_of, is_free}
use Rattle.a429_ldu.specs.Ldu.{IsLdu, LduValue, count_of, is_final}
use Rattle.a429_link.specs.declared.file.FileBytes.{FileBytes}
use Rattle.a429_link.specs.declared.number.UnitNumber.{UnitNumber}
use Rattle.a429_link.specs.declared.seen.Seen.{Seen}
use Rattle.a429_link.specs.declared.state.SourceState.{SourceState}
use Rattle.a429_link.specs.declared.state.SourceState.TheVariants.{Awaiting, Idle, Sending, Waiting}
use Rattle.a429_link.specs.declared.step.Step.{Step}
use Rattle.a429_link.specs.declared.step.Step.TheVariants.{Answered, FreeSeen, GiveUp, Load, LoseAnswer, Sent, SentLost, Silent, SinkTakes, TakeAnswer, TimeOut}
use Rattle.a429_link.specs.Number.{first_number, next_number}
use Rattle.a429_link.specs.Run.{IsRun, offers, settles, trace, with_label}
use Rattle.a429_link.specs.Sink.{Granted, InBlock, Listens, MayAnswerForm, Number, OwesAck, OwesClear, OwesNak, Quiet, Received, Sink, SinkPhase, answers_word, at_end, at_part, end_word, nothing_received}
use Rattle.a429_link.specs.Source.{Source, acknowledged, after_word, next_word, with_answer_first, with_answer_form}
use Rattle.a429_link.specs.State.{IsNonEmpty, State, rest, start}
use Rattle.a429_link.specs.Step.{Can, after, label}
use Rattle.a429_link.proofs.Message.{Ack, AllSay, Cts, Eot, IsRead, MaySay, Message, Nak, Part, Rts, Sot, answers_as, message_in, message_of, next_message, takes_as, takes_message, with_answer_as}
use Rattle.a429_link.proofs.NumberFacts.{number_same}
use Rattle.a429_link.proofs.NumbersCome.{start_has_number}
use Rattle.a429_link.proofs.RunCrossing.{CrossesAt, IsAck, step_crosses}
use Rattle.a429_link.proofs.StateConfigs.{may_answer, may_owes, sink_at, source_at}
use Rattle.a429_link.proofs.StateHolds.{HoldsAt, owed_form, sends, step_holds}
use Rattle.a429_link.proofs.SinkFromTrace.{quiet_owes}
use Rattle.a429_parts.proofs.RerunStates.{state, Rerun, both_step, one_step, crossed, AskedAlike, asked_count, EndsAlike, take_both, IsLater, one_state, other_state, Later, later_rerun}

-- ---- the source has not heard the acknowledgement, and sends the last unit again under another number

-- the next start word has another number than this one
abbrev pub OtherBy : UnitNumber → Option Message → Type 0 → Type 0
OtherBy unit (Some (Sot gfi file ldu)) Later = record { file = file; ldu = ldu } ≢ unit
OtherBy unit m Later = Later

abbrev pub OtherStart : Contents → UnitNumber → List Seen → Type 0
OtherStart p unit [] = Unit {0}
OtherStart p unit (i ∷ items) = OtherBy unit (message_of p i.bus i.word) (OtherStart p unit items)

abbrev IsSot : Message → Type 0
IsSot (Sot gfi file ldu) = Unit {0}
IsSot x = ⊥

-- behind another word
other_behind : (p : Contents) (unit : UnitNumber) (i : Seen) (b : Bus) (x : Message) (items : List Seen)
    → i.bus ≡ b → message_of p b i.word ≡ Some x → (IsSot x → ⊥) → OtherStart p unit (i ∷ items) → OtherStart p unit items
other_behind p unit i b x items on says never h =
    by x never
    (subst (λ (m : Option Message). OtherBy unit m (OtherStart p unit items)) (ap (λ (c : Bus). message_of p c i.word) on ∙ says) h)
  where
    by : (x : Message) → (IsSot x → ⊥) → OtherBy unit (Some x) (OtherStart p unit items) → OtherStart p unit items
    by (Rts n) never h = h
    by (Cts n) never h = h
    by (Ack f l) never h = h
    by (Nak n) never h = h
    by (Sot g f l) never h = absurd (never tt)
    by (Part w) never h = h
    by (Eot f c) never h = h

other_free : (p : Contents) → IsRead p → (unit : UnitNumber) (i : Seen) (items : List Seen) → is_free p.codes i.bus i.word ≡ true
    → OtherStart p unit (i ∷ items) → OtherStart p unit items
other_free p good unit i items free h =
    subst (λ (m : Option Message). OtherBy unit m (OtherStart p unit items)) (ap (message_in i.word) (good.free i.bus i.word free)) h

-- the source would send a start word of this number next
starts_not : (p : Contents) (unit : UnitNumber) (i : Seen) (g f l : ℕ) (items : List Seen)
    → i.bus ≡ bus.A → message_of p bus.A i.word ≡ Some (Sot g f l) → record { file = f; ldu = l } ≡ unit → OtherStart p unit (i ∷ items) → ⊥
starts_not p unit i g f l items on says same h =
    subst (λ (m : Option Message). OtherBy unit m (OtherStart p unit items)) (ap (λ (c : Bus). message_of p c i.word) on ∙ says) h same

-- no start words are on their way
abbrev Startless : Contents → List ℕ → Type 0
Startless p [] = Unit {0}
Startless p (w ∷ ws) = ((x : Message) → message_of p bus.A w ≡ Some x → IsSot x → ⊥) × Startless p ws

startless_push : (p : Contents) (ws : List ℕ) (w : ℕ)
    → Startless p ws → ((x : Message) → message_of p bus.A w ≡ Some x → IsSot x → ⊥) → Startless p (ws ++ w ∷ [])
startless_push p [] w h never = (never, tt)
startless_push p (x ∷ ws) w h never = (h.0, startless_push p ws w h.1 never)

-- and no acknowledgements
abbrev Ackless : Contents → List ℕ → Type 0
Ackless p [] = Unit {0}
Ackless p (v ∷ vs) = (IsAck (message_of p bus.B v) → ⊥) × Ackless p vs

ackless_push : (p : Contents) (vs : List ℕ) (v : ℕ) → Ackless p vs → (IsAck (message_of p bus.B v) → ⊥) → Ackless p (vs ++ v ∷ [])
ackless_push p [] v h never = (never, tt)
ackless_push p (x ∷ vs) v h never = (h.0, ackless_push p vs v h.1 never)

ackless_rest : (p : Contents) (vs : List ℕ) → Ackless p vs → Ackless p (rest vs)
ackless_rest p [] h = tt
ackless_rest p (v ∷ vs) h = h.1

-- the sink has no block
abbrev Blockless : SinkPhase → Type 0
Blockless (InBlock b) = ⊥
Blockless (OwesAck b flags) = ⊥
Blockless kp = Unit {0}

blockless_ends : (c : Codes) (x : Message) (last before : Option Number) (kp : SinkPhase) → Blockless kp → EndsAlike c x last before kp
blockless_ends c (Eot f k) last before (InBlock b) h = absurd h
blockless_ends c (Eot f k) last before Quiet h = tt
blockless_ends c (Eot f k) last before OwesClear h = tt
blockless_ends c (Eot f k) last before Granted h = tt
blockless_ends c (Eot f k) last before (OwesAck b flags) h = tt
blockless_ends c (Eot f k) last before OwesNak h = tt
blockless_ends c (Rts n) last before kp h = tt
blockless_ends c (Cts n) last before kp h = tt
blockless_ends c (Ack f l) last before kp h = tt
blockless_ends c (Nak n) last before kp h = tt
blockless_ends c (Sot g f l) last before kp h = tt
blockless_ends c (Part w) last before kp h = tt

blockless_takes : (p : Contents) (x : Message) (k : Sink) → (IsSot x → ⊥) → Blockless k.phase → Blockless (takes_message p x k).phase
blockless_takes p (Rts n) k never h = tt
blockless_takes p (Cts n) k never h = h
blockless_takes p (Ack f l) k never h = h
blockless_takes p (Nak n) k never h = h
blockless_takes p (Sot g f l) k never h = absurd (never tt)
blockless_takes p (Part w) k never h = by k.phase h
  where
    by : (kp : SinkPhase) → Blockless kp → Blockless (at_part w kp)
    by (InBlock b) h = absurd h
    by (OwesAck b flags) h = absurd h
    by Quiet h = tt
    by OwesClear h = tt
    by Granted h = tt
    by OwesNak h = tt
blockless_takes p (Eot f c) k never h = by k.phase h
  where
    by : (kp : SinkPhase) → Blockless kp → Blockless (at_end p k.last k.count (end_word f c) kp)
    by (InBlock b) h = absurd h
    by (OwesAck b flags) h = absurd h
    by Quiet h = tt
    by OwesClear h = tt
    by Granted h = tt
    by OwesNak h = tt

-- the source of the unit u under a number, with g files given up
abbrev repeating : ℕ → UnitNumber → LduValue → SourceState → Source
repeating g number u sp = source_at g number (Some u) sp

-- what is said next is the same under each number, but for the start word
same_next : (p : Contents) (u : LduValue) (number other : UnitNumber) (sp : SourceState) (w : ℕ) (x : Message)
    → next_message number (Some u) sp ≡ Some x → (IsSot x → ⊥) → next_word p.codes number (Some u) sp ≡ Some w
    → next_word p.codes other (Some u) sp ≡ Some w
same_next p u number other Idle w x says never e = e
same_next p u number other (Sending zero) w x says never e =
    absurd (never (subst IsSot (let same : Sot u.gfi number.file number.ldu ≡ x = cc says in same) tt))
same_next p u number other (Sending (suc k)) w x says never e = e
same_next p u number other Awaiting w x says never e = absurd (cc e)
same_next p u number other Waiting w x says never e = absurd (cc e)

some_next : (p : Contents) (u : LduValue) (number other : UnitNumber) (sp : SourceState)
    → IsSome (next_word p.codes number (Some u) sp) → IsSome (next_word p.codes other (Some u) sp)
some_next p u number other Idle h = refl
some_next p u number other (Sending zero) h = refl
some_next p u number other (Sending (suc k)) h = h
some_next p u number other Awaiting h = absurd (cc h)
some_next p u number other Waiting h = absurd (cc h)

-- the source hears an answer that is no acknowledgement
record HearsAlike (c : Codes) (o : Option Form) (g : ℕ) (number other : UnitNumber) (u : LduValue) (sp : SourceState) : Type 0 where
  phase : SourceState
  one : with_answer_form c o (repeating g number u sp) ≡ repeating g number u phase
  second : with_answer_form c o (repeating g other u sp) ≡ repeating g other u phase

clear_alike : (c : Codes) (n g : ℕ) (number other : UnitNumber) (u : LduValue) (t : Bool)
    → (phase : SourceState) × (cond t (repeating g number u (Sending 0)) (repeating g number u Awaiting) ≡ repeating g number u phase)
    × (cond t (repeating g other u (Sending 0)) (repeating g other u Awaiting) ≡ repeating g other u phase)
clear_alike c n g number other u true = (Sending 0, refl, refl)
clear_alike c n g number other u false = (Awaiting, refl, refl)

hears_alike : (c : Codes) (w : ℕ) (o : Option Form) (g : ℕ) (number other : UnitNumber) (u : LduValue) (sp : SourceState)
    → (IsAck (message_in w o) → ⊥) → HearsAlike c o g number other u sp
hears_alike c w None g number other u sp never = record { phase = sp; one = refl; second = refl }
hears_alike c w (Some (form.Cts n)) g number other u Awaiting never =
    let r = clear_alike c n g number other u (eqb n (count_of u)) in
    record { phase = r.0; one = r.1; second = r.2 }
hears_alike c w (Some (form.Nak n)) g number other u Waiting never = record { phase = Idle; one = refl; second = refl }
hears_alike c w (Some (form.Ack f l)) g number other u sp never = absurd (never tt)
hears_alike c w (Some x) g number other u Idle never = record { phase = Idle; one = refl; second = refl }
hears_alike c w (Some x) g number other u (Sending k) never = record { phase = Sending k; one = refl; second = refl }
hears_alike c w (Some x) g number other u Awaiting never = record { phase = Awaiting; one = refl; second = refl }
hears_alike c w (Some x) g number other u Waiting never = record { phase = Waiting; one = refl; second = refl }

-- where these steps go on, both do
abbrev again_state : Contents → UnitNumber → ℕ → LduValue → SourceState → ℕ → SinkPhase → List ℕ → List ℕ → State
again_state p unit g u sp count kp ws vs = other_state (repeating g (first_number p.codes unit.file) u sp) count kp ws vs

abbrev Repeats : Contents → UnitNumber → LduValue → List Step → Type 0
Repeats p unit u steps =
    (g : ℕ) (sp : SourceState) (received : Received) (count other : ℕ) (kp : SinkPhase) (ws vs : List ℕ) (o : Received)
    (fs : List FileBytes)
    → IsRun p steps (one_state unit (repeating g unit u sp) received count kp ws vs)
    → HoldsAt p (one_state unit (repeating g unit u sp) received count kp ws vs)
    → CrossesAt p (one_state unit (repeating g unit u sp) received count kp ws vs) o fs
    → Blockless kp → Startless p ws → Ackless p vs → AskedAlike kp count other → OtherStart p unit (trace steps)
    → Rerun p received.files steps (one_state unit (repeating g unit u sp) received count kp ws vs)
    (again_state p unit g u sp other kp ws vs)

repeat_takes : (p : Contents) (unit : UnitNumber) (u : LduValue) (steps : List Step)
    → Repeats p unit u steps → (g : ℕ) (sp : SourceState) (received : Received) (count other : ℕ) (kp : SinkPhase) (ws vs : List ℕ)
    (xs : List Message) (o : Received) (fs : List FileBytes) → IsNonEmpty ws → Listens kp → AllSay p bus.A ws xs
    → IsRun p steps (after p SinkTakes (one_state unit (repeating g unit u sp) received count kp ws vs))
    → HoldsAt p (after p SinkTakes (one_state unit (repeating g unit u sp) received count kp ws vs))
    → CrossesAt p (after p SinkTakes (one_state unit (repeating g unit u sp) received count kp ws vs)) o fs → Blockless kp → Startless p ws
    → Ackless p vs → AskedAlike kp count other → OtherStart p unit (trace steps)
    → Rerun p received.files (SinkTakes ∷ steps) (one_state unit (repeating g unit u sp) received count kp ws vs)
    (again_state p unit g u sp other kp ws vs)
repeat_takes p unit u steps go g sp received count other kp [] vs xs o fs some listens says run holds crosses blockless startless ackless
    alike others =
    absurd some
repeat_takes p unit u steps go g sp received count other kp (w ∷ ws) vs [] o fs some listens says run holds crosses blockless startless
    ackless alike others =
    absurd says
repeat_takes p unit u steps go g sp received count other kp (w ∷ ws) vs (x ∷ xs) o fs some listens says run holds crosses blockless
    startless ackless alike others =
    let q = repeating g unit u sp in
    let r = repeating g (first_number p.codes unit.file) u sp in
    let t =
    take_both p x (crossed unit) None received nothing_received count other kp alike
    (blockless_ends p.codes x (crossed unit) None kp blockless) in
    let one = takes_as p w x (sink_at (crossed unit) received count kp) says.0 ∙ t.one in
    let second = takes_as p w x (sink_at None nothing_received other kp) says.0 ∙ t.second in
    let still =
    subst Blockless (ap (λ (k : Sink). k.phase) t.one)
    (blockless_takes p x (sink_at (crossed unit) received count kp) (startless.0 x says.0) blockless) in
    let next =
    go g sp received t.now t.other_now t.phase ws vs o fs
    (subst (λ (k : Sink). IsRun p steps (state q k ws vs)) one run)
    (subst (λ (k : Sink). HoldsAt p (state q k ws vs)) one holds)
    (subst (λ (k : Sink). CrossesAt p (state q k ws vs) o fs) one crosses)
    still startless.1 ackless t.alike others in
    both_step p received.files SinkTakes steps (one_state unit q received count kp (w ∷ ws) vs) (other_state r other kp (w ∷ ws) vs)
    (tt, listens)
    (subst (λ (k : Sink). Rerun p received.files steps (state q k ws vs) (after p SinkTakes (other_state r other kp (w ∷ ws) vs))) (sym one)
    (subst (λ (k : Sink). Rerun p received.files steps (one_state unit q received t.now t.phase ws vs) (state r k ws vs))
    (sym second) next))

-- the sink answers: it owes no acknowledgement
record Said (p : Contents) (w : ℕ) (last before : Option Number) (received nothing : Received) (count other : ℕ)
    (kp : SinkPhase) : Type 0 where
  phase : SinkPhase
  blockless : Blockless phase
  no_ack : IsAck (message_of p bus.B w) → ⊥
  no_start : (x : Message) → message_of p bus.B w ≡ Some x → IsSot x → ⊥
  one : answers_word p.codes w (sink_at last received count kp) ≡ sink_at last received count phase
  second : answers_word p.codes w (sink_at before nothing other kp) ≡ sink_at before nothing other phase

say_both : (p : Contents) (w : ℕ) (x : Message) (last before : Option Number) (received nothing : Received) (count other : ℕ)
    (kp : SinkPhase)
    → message_of p bus.B w ≡ Some x → MaySay count kp x → Blockless kp → Said p w last before received nothing count other kp
say_both p w (Cts n) last before received nothing count other kp is may h = record {
  phase = Granted;
  blockless = tt;
  no_ack = λ a. subst IsAck is a;
  no_start = λ x e s. subst IsSot (let same : x ≡ Cts n = cc (e, is) in same) s;
  one = answers_as p w (Cts n) (sink_at last received count kp) is;
  second = answers_as p w (Cts n) (sink_at before nothing other kp) is;
}
say_both p w (Nak n) last before received nothing count other kp is may h = record {
  phase = Quiet;
  blockless = tt;
  no_ack = λ a. subst IsAck is a;
  no_start = λ x e s. subst IsSot (let same : x ≡ Nak n = cc (e, is) in same) s;
  one = answers_as p w (Nak n) (sink_at last received count kp) is;
  second = answers_as p w (Nak n) (sink_at before nothing other kp) is;
}
say_both p w (Ack f l) last before received nothing count other (OwesAck b flags) is may h = absurd h
say_both p w (Ack f l) last before received nothing count other kp is may h = absurd may
say_both p w x last before received nothing count other kp is may h = absurd (may_answer count kp x may)

repeat_answers : (p : Contents) (unit : UnitNumber) (u : LduValue) (steps : List Step)
    → Repeats p unit u steps → (i : Seen) (x : Message) (g : ℕ) (sp : SourceState) (received : Received) (count other : ℕ) (kp : SinkPhase)
    (ws vs : List ℕ) (o : Received) (fs : List FileBytes)
    → message_of p bus.B i.word ≡ Some x → MaySay count kp x → Can p (Answered i) (again_state p unit g u sp other kp ws vs) → count ≡ other
    → IsRun p steps (after p (Answered i) (one_state unit (repeating g unit u sp) received count kp ws vs))
    → HoldsAt p (after p (Answered i) (one_state unit (repeating g unit u sp) received count kp ws vs))
    → CrossesAt p (after p (Answered i) (one_state unit (repeating g unit u sp) received count kp ws vs)) o fs → Blockless kp
    → Startless p ws → Ackless p vs → OtherStart p unit (i ∷ trace steps)
    → Rerun p received.files (Answered i ∷ steps) (one_state unit (repeating g unit u sp) received count kp ws vs)
    (again_state p unit g u sp other kp ws vs)
repeat_answers p unit u steps go i x g sp received count other kp ws vs o fs is may can same run holds crosses blockless startless ackless
    others =
    let q = repeating g unit u sp in
    let r = repeating g (first_number p.codes unit.file) u sp in
    let all = vs ++ i.word ∷ [] in
    let t = say_both p i.word x (crossed unit) None received nothing_received count other kp is may blockless in
    let next =
    go g sp received count other t.phase ws all o fs
    (subst (λ (k : Sink). IsRun p steps (state q k ws all)) t.one run)
    (subst (λ (k : Sink). HoldsAt p (state q k ws all)) t.one holds)
    (subst (λ (k : Sink). CrossesAt p (state q k ws all) o fs) t.one crosses)
    t.blockless startless (ackless_push p vs i.word ackless t.no_ack) (inr same)
    (other_behind p unit i bus.B x (trace steps) can.0 is (t.no_start x is) others) in
    both_step p received.files (Answered i) steps _ _ can
    (subst (λ (k : Sink). Rerun p received.files steps (state q k ws all) (after p (Answered i) (again_state p unit g u sp other kp ws vs)))
    (sym t.one)
    (subst (λ (k : Sink). Rerun p received.files steps (one_state unit q received count t.phase ws all) (state r k ws all))
    (sym t.second) next))

-- the source hears an answer
repeat_hears : (p : Contents) (unit : UnitNumber) (u : LduValue) (steps : List Step) → Repeats p unit u steps → (g : ℕ) (sp : SourceState)
    (received : Received) (count other : ℕ) (kp : SinkPhase) (ws vs : List ℕ) (o : Received) (fs : List FileBytes)
    → IsNonEmpty vs → IsRun p steps (after p TakeAnswer (one_state unit (repeating g unit u sp) received count kp ws vs))
    → HoldsAt p (after p TakeAnswer (one_state unit (repeating g unit u sp) received count kp ws vs))
    → CrossesAt p (after p TakeAnswer (one_state unit (repeating g unit u sp) received count kp ws vs)) o fs → Blockless kp → Startless p ws
    → Ackless p vs → AskedAlike kp count other → OtherStart p unit (trace steps)
    → Rerun p received.files (TakeAnswer ∷ steps) (one_state unit (repeating g unit u sp) received count kp ws vs)
    (again_state p unit g u sp other kp ws vs)
repeat_hears p unit u steps go g sp received count other kp ws [] o fs some run holds crosses blockless startless ackless alike others =
    absurd some
repeat_hears p unit u steps go g sp received count other kp ws (v ∷ vs) o fs some run holds crosses blockless startless ackless alike
    others =
    let t = hears_alike p.codes v (form_of p.codes bus.B v) g unit (first_number p.codes unit.file) u sp ackless.0 in
    let k = sink_at (crossed unit) received count kp in
    let next =
    go g t.phase received count other kp ws vs o fs
    (subst (λ (q : Source). IsRun p steps (state q k ws vs)) t.one run)
    (subst (λ (q : Source). HoldsAt p (state q k ws vs)) t.one holds)
    (subst (λ (q : Source). CrossesAt p (state q k ws vs) o fs) t.one crosses)
    blockless startless ackless.1 alike others in
    both_step p received.files TakeAnswer steps _ _ tt
    (subst (λ (q : Source).
    Rerun p received.files steps (state q k ws vs) (after p TakeAnswer (again_state p unit g u sp other kp ws (v ∷ vs)))) (sym t.one)
    (subst (λ (q : Source). Rerun p received.files steps (one_state unit (repeating g unit u t.phase) received count kp ws vs)
    (other_state q other kp ws vs)) (sym t.second) next))

-- the source sends a word
repeat_sends : (p : Contents) → IsRead p → (unit : UnitNumber) (u : LduValue) (steps : List Step) → Repeats p unit u steps
    → (i : Seen) (x : Message) (g : ℕ) (sp : SourceState) (received : Received) (count other : ℕ) (kp : SinkPhase) (ws vs : List ℕ)
    (o : Received) (fs : List FileBytes) → i.bus ≡ bus.A → next_word p.codes unit (Some u) sp ≡ Some i.word
    → next_message unit (Some u) sp ≡ Some x → message_of p bus.A i.word ≡ Some x → (IsSot x → ⊥)
    → IsRun p steps (after p (Sent i) (one_state unit (repeating g unit u sp) received count kp ws vs))
    → HoldsAt p (after p (Sent i) (one_state unit (repeating g unit u sp) received count kp ws vs))
    → CrossesAt p (after p (Sent i) (one_state unit (repeating g unit u sp) received count kp ws vs)) o fs → Blockless kp → Startless p ws
    → Ackless p vs → AskedAlike kp count other → OtherStart p unit (i ∷ trace steps)
    → Rerun p received.files (Sent i ∷ steps) (one_state unit (repeating g unit u sp) received count kp ws vs)
    (again_state p unit g u sp other kp ws vs)
repeat_sends p good unit u steps go i x g sp received count other kp ws vs o fs on next says is never run holds crosses blockless startless
    ackless alike others =
    both_step p received.files (Sent i) steps _ _ (on, same_next p u unit (first_number p.codes unit.file) sp i.word x says never next)
    (go g (after_word (Some u) sp) received count other kp (ws ++ i.word ∷ []) vs o fs run holds crosses blockless
    (startless_push p ws i.word startless (λ y e s. never (subst IsSot (let same : y ≡ x = cc (e, is) in same) s))) ackless alike
    (other_behind p unit i bus.A x (trace steps) on is never others))

no_start_again : (p : Contents) (unit : UnitNumber) (u : LduValue) (sp : SourceState) (i : Seen) (x : Message) (items : List Seen)
    → i.bus ≡ bus.A → next_message unit (Some u) sp ≡ Some x → message_of p bus.A i.word ≡ Some x → OtherStart p unit (i ∷ items) → IsSot x
    → ⊥
no_start_again p unit u (Sending k) i (Sot g f l) items on says is others s =
    starts_not p unit i g f l items on is (start_has_number unit u k g f l says) others
no_start_again p unit u Idle i (Sot g f l) items on says is others s = cc says
no_start_again p unit u Awaiting i (Sot g f l) items on says is others s = cc says
no_start_again p unit u Waiting i (Sot g f l) items on says is others s = cc says
no_start_again p unit u sp i x items on says is others s = absurd s

repeat_rerun : (p : Contents)
    → IsRead p → (unit : UnitNumber) → unit.file ≤ 255 → (u : LduValue) (steps : List Step) → Repeats p unit u steps
repeat_rerun p good unit byte u [] g sp received count other kp ws vs o fs run holds crosses blockless startless ackless alike others =
    record { again = []; run = tt; records = refl; delivers = sym (append-nil received.files) }
repeat_rerun p good unit byte u (a ∷ steps) g sp received count other kp ws vs o fs run holds crosses blockless startless ackless alike
    others =
    by (repeat_rerun p good unit byte u steps) a run.0 run.1 (step_holds p good a s run.0 holds)
    (step_crosses p good a s o fs run.0 holds crosses) others
  where
    s : State
    s = one_state unit (repeating g unit u sp) received count kp ws vs

    t : State
    t = again_state p unit g u sp other kp ws vs

    files : List FileBytes
    files = received.files

    by : Repeats p unit u steps → (a : Step) → Can p a s → IsRun p steps (after p a s) → HoldsAt p (after p a s)
        → CrossesAt p (after p a s) (offers p a s o) (settles p a s o fs) → OtherStart p unit (trace (a ∷ steps))
        → Rerun p files (a ∷ steps) s t
    by go (Load v) can run holds_on crosses_on others = absurd (cc can.1)
    by go (Sent i) can run holds_on crosses_on others =
        let says = sends p good s.source i.word holds.file holds.current can.1 in
        repeat_sends p good unit u steps go i says.said g sp received count other kp ws vs _ _ can.0 can.1 says.next says.says
        (no_start_again p unit u sp i says.said (trace steps) can.0 says.next says.says others) run holds_on crosses_on blockless startless
        ackless alike others
    by go SentLost can run holds_on crosses_on others =
        both_step p files SentLost steps s t (some_next p u unit (first_number p.codes unit.file) sp can)
        (go g _ received count other kp ws vs _ _ run holds_on crosses_on blockless startless ackless alike others)
    by go TimeOut can run holds_on crosses_on others =
        both_step p files TimeOut steps s t can
        (go g Idle received count other kp ws vs _ _ run holds_on crosses_on blockless startless ackless alike others)
    by go TakeAnswer can run holds_on crosses_on others =
        repeat_hears p unit u steps go g sp received count other kp ws vs _ _ can run holds_on crosses_on blockless startless ackless alike
        others
    by go LoseAnswer can run holds_on crosses_on others =
        both_step p files LoseAnswer steps s t can
        (go g sp received count other kp ws _ _ _ run holds_on crosses_on blockless startless (ackless_rest p vs ackless) alike others)
    by go SinkTakes can run holds_on crosses_on others =
        repeat_takes p unit u steps go g sp received count other kp ws vs holds.xs _ _ can.0 can.1 holds.sink_words run holds_on crosses_on
        blockless startless ackless alike others
    by go Silent can run holds_on crosses_on others =
        both_step p files Silent steps s t can
        (go g sp received count other Quiet ws vs _ _ run holds_on crosses_on tt startless ackless (inl refl) others)
    by go (Answered i) can run holds_on crosses_on others =
        let r = owed_form p s i can in
        let same = asked_count kp count other alike (λ quiet. quiet_owes kp quiet (may_owes count kp r.said r.owed)) in
        repeat_answers p unit u steps go i r.said g sp received count other kp ws vs _ _ r.is r.owed (
          can.0,
          subst (λ (n : ℕ). MayAnswerForm n kp (form_of p.codes bus.B i.word)) same can.1,
        ) same run holds_on crosses_on blockless startless ackless others
    by go (FreeSeen i) can run holds_on crosses_on others =
        both_step p files (FreeSeen i) steps s t can
        (go g sp received count other kp ws vs _ _ run holds_on crosses_on blockless startless ackless alike
        (other_free p good unit i (trace steps) can others))
    by go GiveUp can run holds_on crosses_on others =
        let next : IsLater p.codes unit (first_number p.codes ((unit.file + 1) % 256)) (suc g) =
        record { files = 1; some = omega arith; few = omega arith; file = refl; ldu = refl } in
        both_step p files GiveUp steps s t can
        (later_rerun p good unit byte steps _ received count other kp ws vs _ _ run holds_on crosses_on next alike)

-- ---- from the acknowledgement on

-- steps that only the second makes, and that record nothing
second_step : (p : Contents) (files : List FileBytes) (a : Step) (steps : List Step) (s t : State)
    → label a ≡ None → Can p a t → Rerun p files steps s (after p a t) → Rerun p files steps s t
second_step p files a steps s t none can r = record {
  again = a ∷ r.again;
  run = (can, r.run);
  records = ap (λ (l : Option Seen). with_label l (trace r.again)) none ∙ r.records;
  delivers = r.delivers;
}

-- nothing has come to the sink
abbrev fresh : ℕ → UnitNumber → Option LduValue → State
fresh g number cur = other_state (source_at g number cur Idle) 0 Quiet [] []

after_give_ups : (p : Contents) (files : List FileBytes) (steps : List Step) (s : State) (d g h file to : ℕ)
    → h ≡ g + d → to ≡ (file + d) % 256 → file ≤ 255 → h ≤ 127 → Rerun p files steps s (fresh h (first_number p.codes to) None)
    → Rerun p files steps s (fresh g (first_number p.codes file) None)
after_give_ups p files steps s zero g h file to eh et byte few r =
    let same : h ≡ g = omega arith in
    let there : to ≡ file = omega arith in
    subst (λ (n : ℕ). Rerun p files steps s (fresh g (first_number p.codes n) None)) there
    (subst (λ (n : ℕ). Rerun p files steps s (fresh n (first_number p.codes to) None)) same r)
after_give_ups p files steps s (suc d) g h file to eh et byte few r =
    second_step p files GiveUp steps s (fresh g (first_number p.codes file) None) refl (tt, omega arith)
    (after_give_ups p files steps s d (suc g) h ((file + 1) % 256) to (omega arith) (omega arith) (omega arith) few r)

-- a run from the start records these words and delivers these files fewer
pub record Begun (p : Contents) (files : List FileBytes) (steps : List Step) (s : State) : Type 0 where
  pub first : ℕ
  pub byte : first ≤ 255
  pub rerun : Rerun p files steps s (start p first)

begun_none : (p : Contents) (received : Received) (q : Source) (k : Sink) (ws vs : List ℕ)
    → k.received ≡ received → Begun p received.files [] (state q k ws vs)
begun_none p received q k ws vs e = record {
  first = 0;
  byte = omega arith;
  rerun = record { again = []; run = tt; records = refl; delivers = ap (λ (r : Received). r.files) e ∙ sym (append-nil received.files) };
}

begun_free : (p : Contents) (files : List FileBytes) (i : Seen) (steps : List Step) (s : State)
    → Can p (FreeSeen i) s → Begun p files steps s → Begun p files (FreeSeen i ∷ steps) s
begun_free p files i steps s can b =
    record { first = b.first; byte = b.byte; rerun = both_step p files (FreeSeen i) steps s (start p b.first) can b.rerun }

begun_step : (p : Contents) (files : List FileBytes) (a : Step) (steps : List Step) (s : State)
    → label a ≡ None → Begun p files steps (after p a s) → Begun p files (a ∷ steps) s
begun_step p files a steps s none b =
    record { first = b.first; byte = b.byte; rerun = one_step p files a steps s (start p b.first) none b.rerun }

-- a source of this unit, before its first request
repeats_begun : (p : Contents) (files : List FileBytes) (steps : List Step) (s : State) (unit : UnitNumber) (g : ℕ) (u : LduValue)
    → unit.file ≤ 255 → g ≤ 127 → IsLdu p u → Rerun p files steps s (again_state p unit g u Idle 0 Quiet [] []) → Begun p files steps s
repeats_begun p files steps s unit g u byte few ldu r = record {
  first = (unit.file + 256 - g) % 256;
  byte = omega arith;
  rerun =
      after_give_ups p files steps s g 0 g ((unit.file + 256 - g) % 256) unit.file (omega arith) (omega arith) (omega arith) few
      (second_step p files (Load u) steps s (fresh g (first_number p.codes unit.file) None) refl (tt, refl, omega arith, ldu) r);
}

-- the acknowledgement is lost
late_begun : (p : Contents) → IsRead p → (unit : UnitNumber) → unit.file ≤ 255
    → (u : LduValue) (steps : List Step) (g : ℕ) (received : Received) (count : ℕ) (o : Received) (fs : List FileBytes) → IsLdu p u
    → IsRun p steps (one_state unit (repeating g unit u Waiting) received count Quiet [] [])
    → HoldsAt p (one_state unit (repeating g unit u Waiting) received count Quiet [] [])
    → CrossesAt p (one_state unit (repeating g unit u Waiting) received count Quiet [] []) o fs → OtherStart p unit (trace steps)
    → Begun p received.files steps (one_state unit (repeating g unit u Waiting) received count Quiet [] [])
late_begun p good unit byte u [] g received count o fs ldu run holds crosses others = begun_none p received _ _ _ _ refl
late_begun p good unit byte u (a ∷ steps) g received count o fs ldu run holds crosses others =
    by (λ x fs run holds crosses others. late_begun p good unit byte u steps g received count x fs ldu run holds crosses others) a run.0
    run.1 (step_holds p good a s run.0 holds) (step_crosses p good a s o fs run.0 holds crosses) others
  where
    s : State
    s = one_state unit (repeating g unit u Waiting) received count Quiet [] []

    by : ((o : Received) (fs : List FileBytes)
        → IsRun p steps s → HoldsAt p s → CrossesAt p s o fs → OtherStart p unit (trace steps) → Begun p received.files steps s)
        → (a : Step) → Can p a s → IsRun p steps (after p a s) → HoldsAt p (after p a s)
        → CrossesAt p (after p a s) (offers p a s o) (settles p a s o fs) → OtherStart p unit (trace (a ∷ steps))
        → Begun p received.files (a ∷ steps) s
    by go (Load v) can run holds_on crosses_on others = absurd can.0
    by go (Sent i) can run holds_on crosses_on others = absurd (cc can.1)
    by go SentLost can run holds_on crosses_on others = absurd (cc can)
    by go TimeOut can run holds_on crosses_on others =
        begun_step p received.files TimeOut steps s refl
        (repeats_begun p received.files steps (after p TimeOut s) unit g u byte crosses.few ldu
        (repeat_rerun p good unit byte u steps g Idle received count 0 Quiet [] [] _ _ run holds_on crosses_on tt tt tt (inl refl) others))
    by go TakeAnswer can run holds_on crosses_on others = absurd can
    by go LoseAnswer can run holds_on crosses_on others = absurd can
    by go SinkTakes can run holds_on crosses_on others = absurd can.0
    by go Silent can run holds_on crosses_on others = absurd can
    by go (Answered i) can run holds_on crosses_on others = let r = owed_form p s i can in absurd (may_owes count Quiet r.said r.owed)
    by go (FreeSeen i) can run holds_on crosses_on others =
        begun_free p received.files i steps s can (go _ _ run holds_on crosses_on (other_free p good unit i (trace steps) can others))
    by go GiveUp can run holds_on crosses_on others = absurd can.0

-- the acknowledgement by which a file crosses is on its way: the words that are recorded from there on are those of a run from the start
pub crossed_begun : (p : Contents) → IsRead p → (unit : UnitNumber) → unit.file ≤ 255
    → (u : LduValue) (v : ℕ) (steps : List Step) (g : ℕ) (received : Received) (count : ℕ) (o : Received) (fs : List FileBytes) → IsLdu p u
    → is_final p.codes u.flags ≡ true → message_of p bus.B v ≡ Some (Ack unit.file unit.ldu)
    → IsRun p steps (one_state unit (repeating g unit u Waiting) received count Quiet [] (v ∷ []))
    → HoldsAt p (one_state unit (repeating g unit u Waiting) received count Quiet [] (v ∷ []))
    → CrossesAt p (one_state unit (repeating g unit u Waiting) received count Quiet [] (v ∷ [])) o fs → OtherStart p unit (trace steps)
    → Begun p received.files steps (one_state unit (repeating g unit u Waiting) received count Quiet [] (v ∷ []))
crossed_begun p good unit byte u v [] g received count o fs ldu final says run holds crosses others = begun_none p received _ _ _ _ refl
crossed_begun p good unit byte u v (a ∷ steps) g received count o fs ldu final says run holds crosses others =
    by (λ x fs run holds crosses others.
    crossed_begun p good unit byte u v steps g received count x fs ldu final says run holds crosses others) a run.0 run.1
    (step_holds p good a s run.0 holds) (step_crosses p good a s o fs run.0 holds crosses) others
  where
    s : State
    s = one_state unit (repeating g unit u Waiting) received count Quiet [] (v ∷ [])

    next : UnitNumber
    next = first_number p.codes ((unit.file + 1) % 256)

    heard : with_answer_first p.codes (v ∷ []) (repeating g unit u Waiting) ≡ source_at 0 next None Idle
    heard =
        with_answer_as p v (Ack unit.file unit.ldu) (repeating g unit u Waiting) says
        ∙ ap (λ (t : Bool). cond t (acknowledged p.codes u (repeating g unit u Waiting)) (repeating g unit u Waiting)) (number_same unit)
        ∙ ap (λ (t : Bool). source_at 0 (next_number p.codes unit t) None Idle) final

    by : ((o : Received) (fs : List FileBytes)
        → IsRun p steps s → HoldsAt p s → CrossesAt p s o fs → OtherStart p unit (trace steps) → Begun p received.files steps s)
        → (a : Step) → Can p a s → IsRun p steps (after p a s) → HoldsAt p (after p a s)
        → CrossesAt p (after p a s) (offers p a s o) (settles p a s o fs) → OtherStart p unit (trace (a ∷ steps))
        → Begun p received.files (a ∷ steps) s
    by go (Load w) can run holds_on crosses_on others = absurd can.0
    by go (Sent i) can run holds_on crosses_on others = absurd (cc can.1)
    by go SentLost can run holds_on crosses_on others = absurd (cc can)
    by go TimeOut can run holds_on crosses_on others = absurd (cc can.2)
    by go TakeAnswer can run holds_on crosses_on others =
        let k = sink_at (crossed unit) received count Quiet in
        let later : IsLater p.codes unit next 0 = record { files = 1; some = omega arith; few = omega arith; file = refl; ldu = refl } in
        let r =
        later_rerun p good unit byte steps (source_at 0 next None Idle) received count 0 Quiet [] [] _ _
        (subst (λ (q : Source). IsRun p steps (state q k [] [])) heard run)
        (subst (λ (q : Source). HoldsAt p (state q k [] [])) heard holds_on)
        (subst (λ (q : Source). CrossesAt p (state q k [] []) (offers p TakeAnswer s o) (settles p TakeAnswer s o fs)) heard crosses_on)
        later (inl refl) in
        begun_step p received.files TakeAnswer steps s refl
        (record {
          first = (unit.file + 1) % 256;
          byte = omega arith;
          rerun = subst (λ (q : Source). Rerun p received.files steps (state q k [] []) (start p ((unit.file + 1) % 256))) (sym heard) r;
        })
    by go LoseAnswer can run holds_on crosses_on others =
        begun_step p received.files LoseAnswer steps s refl
        (late_begun p good unit byte u steps g received count _ _ ldu run holds_on crosses_on others)
    by go SinkTakes can run holds_on crosses_on others = absurd can.0
    by go Silent can run holds_on crosses_on others = absurd can
    by go (Answered i) can run holds_on crosses_on others = let r = owed_form p s i can in absurd (may_owes count Quiet r.said r.owed)
    by go (FreeSeen i) can run holds_on crosses_on others =
        begun_free p received.files i steps s can (go _ _ run holds_on crosses_on (other_free p good unit i (trace steps) can others))
    by go GiveUp can run holds_on crosses_on others = absurd can.0
