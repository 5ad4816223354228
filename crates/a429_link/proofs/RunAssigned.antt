-- The attempts of each run's trace can be assigned to link data units: those that the run sends.
use Rattle.std.proofs.Common.{◌≡◌, ◌⊎◌, ℕ, suc, ◌+◌, ◌%◌, ◌≤◌, Bool, true, false, cond, eqb, ◌&&◌, List, [], ◌∷◌, ◌++◌, Option, Some, None, is_some, refl, sym, ap, ◌∙◌, subst, inl, inr, arith}
use Rattle.a429_word.specs.declared.bus.Bus.{Bus}
use Rattle.a429_word.specs.declared.bus.Bus.TheVariants as bus
use Rattle.a429_profile.specs.Profile.{Contents}
use Rattle.a429_profile.specs.declared.codes.Codes.{Codes}
use Rattle.a429_ldu.specs.declared.forms.Form.{Form}
use Rattle.a429_ldu.specs.declared.forms.Form.TheVariants as form
use Rattle.a429_ldu.specs.Form.{form_of}
use Rattle.a429_ldu.specs.Ldu.{LduValue, block_of, count_of}
use Rattle.a429_link.specs.declared.file.FileBytes.{FileBytes}
use Rattle.a429_link.specs.declared.number.UnitNumber.{UnitNumber}
use Rattle.a429_link.specs.declared.seen.Seen.{Seen}
use Rattle.a429_link.specs.declared.state.SourceState.{SourceState}
use Rattle.a429_link.specs.declared.state.SourceState.TheVariants.{Awaiting, Idle, Sending, Waiting}
use Rattle.a429_link.specs.declared.step.Step.{Step}
use Rattle.a429_link.specs.declared.step.Step.TheVariants.{Answered, FreeSeen, GiveUp, Load, LoseAnswer, Sent, SentLost, Silent, SinkTakes, TakeAnswer, TimeOut}
use Rattle.a429_link.specs.Number.{first_number, number_after}
use Rattle.a429_link.specs.Run.{BeginsARun, IsRun, offers, settles, trace, with_label}
use Rattle.a429_link.specs.Sink.{Received, SinkPhase, nothing_received}
use Rattle.a429_link.specs.Source.{IsIdle, Source, after_word, with_answer_first, next_word}
use Rattle.a429_link.specs.State.{IsNonEmpty, State, rest, start}
use Rattle.a429_link.specs.Step.{Can, after, label}
use Rattle.a429_link.specs.Attempt.{Attempt, asks, attempts_from, fresh, goes_on_to, grown}
use Rattle.a429_link.specs.Assignment.{Assigned, ComesTo, GivesUp, GoOnAssigned, IsAssignable, IsNext, IsOf, IsSound}
use Rattle.a429_link.proofs.Message.{Ack, AllSay, Cts, Eot, IsRead, MaySay, Message, Nak, Part, Rts, Sot, block_messages, with_answer_as, with_answer_message, message_in, message_of, next_message, none_say}
use Rattle.a429_link.proofs.MessageSubsequence.{IsBlockWord}
use Rattle.a429_link.proofs.Subsequence.{sub_none}
use Rattle.a429_link.proofs.StateConfigs.{Config, acked, block_words_each, cleared, may_answer, may_owes, owes_alone, refused, source_at}
use Rattle.a429_link.proofs.StateHolds.{Current, owed_form, sends, step_holds, each_get}
use Rattle.a429_link.proofs.RunTraces.{IsCts, no_cts}
use Rattle.a429_link.proofs.RunCrossing.{Books, HasAck, IsAck, no_ack, one_answer, start_books, step_crosses}
use Rattle.a429_link.proofs.NumberStages.{Resting, Words, answered_kept, idle_alone, lose_gone, lost_kept, lost_rests, own_ack, owes_listens, rests_alone, unheard_kept, words_all, words_next, words_none, words_push}
use Rattle.a429_link.proofs.SinkFromTrace.{none_there}

-- ---- attempts, by messages

abbrev asks_said : Bus → Option Message → Option ℕ
asks_said bus.A (Some (Rts n)) = Some n
asks_said _ _ = None

abbrev grown_said : Bus → ℕ → Option Message → Attempt → Attempt
grown_said bus.A w (Some (Sot g f l)) a = record a { words = a.words ++ w ∷ [] }
grown_said bus.A w (Some (Part s)) a = record a { words = a.words ++ w ∷ [] }
grown_said bus.A w (Some (Eot f c)) a = record a { words = a.words ++ w ∷ [] }
grown_said bus.B w (Some (Cts n)) a = record a { words = [] }
grown_said bus.B w (Some (Ack f l)) a = record a { acked = Some (record { file = f; ldu = l }) }
grown_said _ w _ a = a

-- ---- how a state of a run compares with what its attempts are assigned to so far

-- the unit of the last attempt is current
abbrev pub KeptBy : Contents → Assigned → Attempt → Source → List ℕ → Type 0
KeptBy p t a q vs = (q.number ≡ t.number) × (q.current ≡ Some t.unit) × (q.give_ups ≡ t.give_ups)
    × Words p t.number t.unit q.phase vs a.words × (HasAck p vs → is_some a.acked ≡ true)

-- the source has left it, or there is none, and has recorded nothing since
abbrev pub LeftBy : Contents → Option Assigned → Attempt → Source → List ℕ → List ℕ → SinkPhase → Type 0
LeftBy p now a q ws vs kp = ComesTo p.codes now (is_some a.acked) q.number q.give_ups × Resting q.phase ws vs kp

abbrev pub StandsBy : Contents → Option Assigned → Attempt → Source → List ℕ → List ℕ → SinkPhase → Type 0
StandsBy p None a q ws vs kp = LeftBy p None a q ws vs kp
StandsBy p (Some t) a q ws vs kp = KeptBy p t a q vs ⊎ LeftBy p (Some t) a q ws vs kp

abbrev pub AssignsBy : Contents → Option Assigned → Attempt → Source → List ℕ → List ℕ → SinkPhase → Type 0
AssignsBy p now a q ws vs kp = IsOf p now a × StandsBy p now a q ws vs kp

abbrev pub Assigns : Contents → Option Assigned → Attempt → State → Type 0
Assigns p now a s = AssignsBy p now a s.source s.to_sink s.to_source s.sink.phase

-- what a recorded word makes of it: the attempt goes on, or a next one begins
abbrev AfterAsk : Contents → Option Assigned → Attempt → Attempt → Option ℕ → Source → List ℕ → List ℕ → SinkPhase → Type 0
AfterAsk p now a b None q ws vs kp = AssignsBy p now b q ws vs kp
AfterAsk p now a b (Some n) q ws vs kp = (t : Assigned) × IsSound p t × (n ≡ count_of t.unit) × IsNext p.codes now (is_some a.acked) t
    × AssignsBy p (Some t) (fresh n) q ws vs kp

abbrev AfterSaid : Contents → Option Assigned → Attempt → Bus → ℕ → Option Message → Source → List ℕ → List ℕ → SinkPhase → Type 0
AfterSaid p now a b w o q ws vs kp = AfterAsk p now a (grown_said b w o a) (asks_said b o) q ws vs kp

abbrev AfterForm : Contents → Option Assigned → Attempt → Bus → ℕ → Option Form → Source → List ℕ → List ℕ → SinkPhase → Type 0
AfterForm p now a b w o q ws vs kp = AfterAsk p now a (grown b w o a) (asks b o) q ws vs kp

after_said : (p : Contents) (now : Option Assigned) (a : Attempt) (b : Bus) (w : ℕ) (o : Option Form) (q : Source) (ws vs : List ℕ)
    (kp : SinkPhase) → AfterSaid p now a b w (message_in w o) q ws vs kp → AfterForm p now a b w o q ws vs kp
after_said p now a bus.A w None q ws vs kp h = h
after_said p now a bus.A w (Some (form.Rts n)) q ws vs kp h = h
after_said p now a bus.A w (Some (form.Cts n)) q ws vs kp h = h
after_said p now a bus.A w (Some (form.Ack f l)) q ws vs kp h = h
after_said p now a bus.A w (Some (form.Nak n)) q ws vs kp h = h
after_said p now a bus.A w (Some (form.Sot g f l)) q ws vs kp h = h
after_said p now a bus.A w (Some (form.Part s)) q ws vs kp h = h
after_said p now a bus.A w (Some (form.Eot f c)) q ws vs kp h = h
after_said p now a bus.B w None q ws vs kp h = h
after_said p now a bus.B w (Some (form.Rts n)) q ws vs kp h = h
after_said p now a bus.B w (Some (form.Cts n)) q ws vs kp h = h
after_said p now a bus.B w (Some (form.Ack f l)) q ws vs kp h = h
after_said p now a bus.B w (Some (form.Nak n)) q ws vs kp h = h
after_said p now a bus.B w (Some (form.Sot g f l)) q ws vs kp h = h
after_said p now a bus.B w (Some (form.Part s)) q ws vs kp h = h
after_said p now a bus.B w (Some (form.Eot f c)) q ws vs kp h = h

abbrev AfterItem : Contents → Option Assigned → Attempt → Seen → State → Type 0
AfterItem p now a i s = AfterForm p now a i.bus i.word (form_of p.codes i.bus i.word) s.source s.to_sink s.to_source s.sink.phase

abbrev AfterLabel : Contents → Option Assigned → Attempt → Option Seen → State → Type 0
AfterLabel p now a None s = Assigns p now a s
AfterLabel p now a (Some i) s = AfterItem p now a i s

after_on : (p : Contents) (now : Option Assigned) (a : Attempt) (i : Seen) (b : Bus) (x : Message) (q : Source) (ws vs : List ℕ)
    (kp : SinkPhase)
    → i.bus ≡ b → message_of p b i.word ≡ Some x → AfterSaid p now a b i.word (Some x) q ws vs kp
    → AfterForm p now a i.bus i.word (form_of p.codes i.bus i.word) q ws vs kp
after_on p now a i b x q ws vs kp e h r =
    after_said p now a i.bus i.word (form_of p.codes i.bus i.word) q ws vs kp
    (subst (λ (c : Bus). AfterSaid p now a c i.word (message_of p c i.word) q ws vs kp) (sym e)
    (subst (λ o. AfterSaid p now a b i.word o q ws vs kp) (sym h) r))

after_free : (p : Contents) (now : Option Assigned) (a : Attempt) (b : Bus) (w : ℕ) (o : Option Form) (q : Source) (ws vs : List ℕ)
    (kp : SinkPhase) → o ≡ None → AssignsBy p now a q ws vs kp → AfterForm p now a b w o q ws vs kp
after_free p now a b w o q ws vs kp e h = subst (λ x. AfterForm p now a b w x q ws vs kp) (sym e) (none b)
  where
    none : (b : Bus) → AfterForm p now a b w None q ws vs kp
    none bus.A = h
    none bus.B = h

pub next_comes : (c : Codes) (now : Option Assigned) (acked : Bool) (t : Assigned)
    → ComesTo c now acked t.number t.give_ups → IsNext c now acked t
next_comes c None ok t h = h
next_comes c (Some last) ok t h = inr h

-- ---- a word is recorded from where the unit is current

grown_words : (p : Contents) (t : Assigned) (a : Attempt) (w : ℕ) (x : Message) (q : Source) (ws vs : List ℕ) (kp : SinkPhase)
    → IsBlockWord x → IsOf p (Some t) a → (q.number ≡ t.number) × (q.current ≡ Some t.unit) × (q.give_ups ≡ t.give_ups)
    → Words p t.number t.unit q.phase vs (a.words ++ w ∷ []) → (HasAck p vs → is_some a.acked ≡ true)
    → AfterSaid p (Some t) a bus.A w (Some x) q ws vs kp
grown_words p t a w (Sot g f l) q ws vs kp b of same words ack = (
  (record { asked = of.0.asked; words = words_all p t.number t.unit q.phase vs (a.words ++ w ∷ []) words }, of.1),
  inl (same.0, same.1, same.2, words, ack),
)
grown_words p t a w (Part s) q ws vs kp b of same words ack = (
  (record { asked = of.0.asked; words = words_all p t.number t.unit q.phase vs (a.words ++ w ∷ []) words }, of.1),
  inl (same.0, same.1, same.2, words, ack),
)
grown_words p t a w (Eot f c) q ws vs kp b of same words ack = (
  (record { asked = of.0.asked; words = words_all p t.number t.unit q.phase vs (a.words ++ w ∷ []) words }, of.1),
  inl (same.0, same.1, same.2, words, ack),
)
grown_words p t a w _ q ws vs kp b of same words ack = absurd b

-- a next attempt of a unit that is current
asks_kept : (p : Contents) (now : Option Assigned) (a : Attempt) (t : Assigned) (w : ℕ) (q : Source) (ws vs : List ℕ) (kp : SinkPhase)
    → IsSound p t → IsNext p.codes now (is_some a.acked) t → (q.number ≡ t.number) × (q.current ≡ Some t.unit) × (q.give_ups ≡ t.give_ups)
    → (HasAck p vs → ⊥) → AfterSaid p now a bus.A w (Some (Rts (count_of t.unit))) q ws vs kp
asks_kept p now a t w q ws vs kp sound next same none = (
  t,
  sound,
  refl,
  next,
  (
    (record { asked = refl; words = sub_none (block_of p.codes t.unit t.number.file t.number.ldu) }, tt),
    inl (same.0, same.1, same.2, words_none p t.number t.unit q.phase vs, λ h. absurd (none h)),
  ),
)

sent_assigned : (p : Contents) (t : Assigned) (a : Attempt) (w : ℕ) (x : Message) (sp : SourceState) (q : Source) (ws vs : List ℕ)
    (kp : SinkPhase)
    → next_word p.codes t.number (Some t.unit) sp ≡ Some w → next_message t.number (Some t.unit) sp ≡ Some x → IsSound p t
    → IsOf p (Some t) a → Words p t.number t.unit sp vs a.words → (HasAck p vs → is_some a.acked ≡ true) → (IsIdle sp → HasAck p vs → ⊥)
    → (q.number ≡ t.number) × (q.current ≡ Some t.unit) × (q.give_ups ≡ t.give_ups) → q.phase ≡ after_word (Some t.unit) sp
    → AfterSaid p (Some t) a bus.A w (Some x) q ws vs kp
sent_assigned p t a w x Idle q ws vs kp ew ex sound of words ack none same e =
    let said : Rts (count_of t.unit) ≡ x = cc in
    subst (λ y. AfterSaid p (Some t) a bus.A w (Some y) q ws vs kp) said
    (asks_kept p (Some t) a t w q ws vs kp sound (inl refl) same (none tt))
sent_assigned p t a w x (Sending i) q ws vs kp ew ex sound of words ack none same e =
    grown_words p t a w x q ws vs kp
    (each_get IsBlockWord i (block_messages t.unit t.number) x (block_words_each t.unit t.number) ex) of same
    (subst (λ sp. Words p t.number t.unit sp vs (a.words ++ w ∷ [])) (sym e) (words_next p t.number t.unit i
    (eqb (suc i) (count_of t.unit)) vs (a.words ++ w ∷ []) (words_push p t.number t.unit i w a.words ew words)))
    ack
sent_assigned p t a w x Awaiting q ws vs kp ew ex sound of words ack none same e = absurd (cc ew)
sent_assigned p t a w x Waiting q ws vs kp ew ex sound of words ack none same e = absurd (cc ew)

-- ---- from where the source has left it

pub sound_now : (p : Contents) (s : State) (o : Received) (fs : List FileBytes) (u : LduValue)
    → Books p s o fs → s.source.current ≡ Some u → IsSound p (record { number = s.source.number; unit = u; give_ups = s.source.give_ups })
sound_now p s o fs u b e =
    let current = subst (λ x. Current p x s.source.number.ldu) e b.holds.current in
    record { unit = current.2; file = b.holds.file; ldu = (b.crosses.room.more u e).0; give_ups = let few = b.crosses.few in omega arith }

left_sends : (p : Contents) (now : Option Assigned) (a : Attempt) (s : State) (o : Received) (fs : List FileBytes) (w : ℕ) (x : Message)
    (q : Source) (ws : List ℕ)
    → Books p s o fs → (cur : Option LduValue) (sp : SourceState) → s.source.current ≡ cur → Resting sp s.to_sink s.to_source s.sink.phase
    → next_message s.source.number cur sp ≡ Some x → ComesTo p.codes now (is_some a.acked) s.source.number s.source.give_ups
    → (HasAck p s.to_source → ⊥) → (q.number ≡ s.source.number) × (q.current ≡ s.source.current) × (q.give_ups ≡ s.source.give_ups)
    → AfterSaid p now a bus.A w (Some x) q ws s.to_source s.sink.phase
left_sends p now a s o fs w x q ws b None sp e r n h none same = absurd (cc n)
left_sends p now a s o fs w x q ws b (Some u) Idle e r n h none same =
    let t : Assigned = record { number = s.source.number; unit = u; give_ups = s.source.give_ups } in
    let said : Rts (count_of u) ≡ x = cc n in
    subst (λ y. AfterSaid p now a bus.A w (Some y) q ws s.to_source s.sink.phase) said
    (asks_kept p now a t w q ws s.to_source s.sink.phase (sound_now p s o fs u b e) (next_comes p.codes now (is_some a.acked) t h)
    (same.0, same.1 ∙ e, same.2) none)
left_sends p now a s o fs w x q ws b (Some u) Awaiting e r n h none same = absurd (cc n)
left_sends p now a s o fs w x q ws b (Some u) (Sending k) e r n h none same = absurd r
left_sends p now a s o fs w x q ws b (Some u) Waiting e r n h none same = absurd (cc n)

-- a file more is given up
pub comes_more : (c : Codes) (now : Option Assigned) (acked : Bool) (m : UnitNumber) (g : ℕ)
    → ComesTo c now acked m g → ComesTo c now acked (first_number c ((m.file + 1) % 256)) (suc g)
comes_more c None ok m g h = refl
comes_more c (Some t) ok m g (inl h) = inl (gives_more c t.number t.give_ups m g h)
  where
    gives_more : (c : Codes) (n : UnitNumber) (k : ℕ) (m : UnitNumber) (g : ℕ)
        → GivesUp c n k m g → GivesUp c n k (first_number c ((m.file + 1) % 256)) (suc g)
    gives_more c n k m g (d, low, e, l, q) = (suc d, omega arith, omega arith, refl, omega arith)
comes_more c (Some t) ok m g (inr (a, inl (e, z))) =
    inr (a, inr (1, omega arith, ap (λ (n : UnitNumber). (n.file + 1) % 256) e, refl, omega arith))
comes_more c (Some t) ok m g (inr (a, inr (d, low, e, l, q))) = inr (a, inr (suc d, omega arith, omega arith, refl, omega arith))

-- ---- the steps

either : (p : Contents) (t : Assigned) (a : Attempt) (b : Bool) (q r : Source) (ws vs : List ℕ) (kp : SinkPhase)
    → StandsBy p (Some t) a q ws vs kp → StandsBy p (Some t) a r ws vs kp → StandsBy p (Some t) a (cond b q r) ws vs kp
either p t a true q r ws vs kp h k = h
either p t a false q r ws vs kp h k = k

heard_assigned : (p : Contents) (t : Assigned) (a : Attempt) (g : ℕ) (number : UnitNumber) (cur : Option LduValue) (sp : SourceState)
    (count : ℕ) (kp : SinkPhase) (xs : List Message) (y : Message) (ys : List Message) (ws : List ℕ) (v : ℕ) (vs : List ℕ)
    → message_of p bus.B v ≡ Some y → vs ≡ [] → Config number cur sp count kp xs (y ∷ ys)
    → KeptBy p t a (source_at g number cur sp) (v ∷ vs)
    → StandsBy p (Some t) a (with_answer_message p cur sp y (source_at g number cur sp)) ws vs kp
heard_assigned p t a g number cur sp count kp xs y ys ws v vs e none (cleared {u = r} {n = m} q z) h =
    either p t a (eqb m (count_of r)) _ _ ws vs kp
    (inl (h.0, h.1, h.2, h.3.1 (subst IsCts (sym e) tt), λ i. absurd (no_ack p vs none i)))
    (inl (h.0, h.1, h.2, (h.3.0, λ i. absurd (no_cts p vs none i)), λ i. absurd (no_ack p vs none i)))
heard_assigned p t a g number cur sp count kp xs y ys ws v vs e none (refused r) h =
    inl (h.0, h.1, h.2, h.3, λ i. absurd (no_ack p vs none i))
heard_assigned p t a g number cur sp count kp xs y ys ws v vs e none (acked {u = r} {f} {l} q ef el) h =
    let unit : r ≡ t.unit = cc (h.1) in
    let number_is : number_after p.codes number r ≡ number_after p.codes t.number t.unit =
    ap (λ n. number_after p.codes n r) h.0 ∙ ap (number_after p.codes t.number) unit in
    either p t a (eqb f number.file && eqb l number.ldu) _ _ ws vs kp
    (inr (inr (h.4 (subst IsAck (sym e) tt), inl (number_is, refl)), tt))
    (inl (h.0, h.1, h.2, h.3, λ i. absurd (no_ack p vs none i)))

hear_assigned : (p : Contents) (t : Assigned) (a : Attempt) (source : Source) (kp : SinkPhase) (count : ℕ) (ws vs : List ℕ)
    (xs ys : List Message)
    → IsNonEmpty vs → AllSay p bus.B vs ys → Config source.number source.current source.phase count kp xs ys → KeptBy p t a source vs
    → StandsBy p (Some t) a (with_answer_first p.codes vs source) ws (rest vs) kp
hear_assigned p t a source kp count ws [] xs ys e d f h = absurd e
hear_assigned p t a source kp count ws (v ∷ vs) xs [] e d f h = absurd d
hear_assigned p t a source kp count ws (v ∷ vs) xs (y ∷ ys) e d f h =
    subst (λ q. StandsBy p (Some t) a q ws vs kp) (sym (with_answer_as p v y source d.0))
    (heard_assigned p t a source.give_ups source.number source.current source.phase count kp xs y ys ws v vs d.0
    (none_say p bus.B vs ys d.1 (one_answer _ _ _ _ _ _ y ys f)) f h)

-- an answer is recorded
answered_words : (p : Contents) (t : Assigned) (a : Attempt) (number : UnitNumber) (cur : Option LduValue) (sp : SourceState) (count : ℕ)
    (kp : SinkPhase) (xs ys : List Message) (vs : List ℕ) (w : ℕ) (x : Message) (q : Source) (ws us : List ℕ) (lp : SinkPhase)
    → message_of p bus.B w ≡ Some x → vs ≡ [] → MaySay count kp x → Config number cur sp count kp xs ys → number ≡ t.number → q.phase ≡ sp
    → us ≡ vs ++ w ∷ [] → IsOf p (Some t) a → KeptBy p t a q vs → AfterSaid p (Some t) a bus.B w (Some x) q ws us lp
answered_words p t a number cur sp count kp xs ys vs w (Cts n) q ws us lp e none may f en ep eu of h = (
  (record { asked = of.0.asked; words = sub_none (block_of p.codes t.unit t.number.file t.number.ldu) }, of.1),
  inl (
    h.0,
    h.1,
    h.2,
    words_none p t.number t.unit q.phase us,
    λ i. absurd (subst IsAck e (subst (λ l. HasAck p (l ++ w ∷ [])) none (subst (HasAck p) eu i))),
  ),
)
answered_words p t a number cur sp count kp xs ys vs w (Ack f l) q ws us lp e none may c en ep eu of h = (
  (record { asked = of.0.asked; words = of.0.words }, own_ack number cur sp count kp xs ys f l may c ∙ en),
  inl (
    h.0,
    h.1,
    h.2,
    subst (λ z. Words p t.number t.unit z us a.words) (sym ep)
        (answered_kept p t.number t.unit number cur sp count kp xs ys vs us a.words w (Ack f l) may c
        (subst (λ z. Words p t.number t.unit z vs a.words) ep h.3)),
    λ i. refl,
  ),
)
answered_words p t a number cur sp count kp xs ys vs w (Nak n) q ws us lp e none may c en ep eu of h = (
  of,
  inl (
    h.0,
    h.1,
    h.2,
    subst (λ z. Words p t.number t.unit z us a.words) (sym ep)
        (answered_kept p t.number t.unit number cur sp count kp xs ys vs us a.words w (Nak n) may c
        (subst (λ z. Words p t.number t.unit z vs a.words) ep h.3)),
    λ i. absurd (subst IsAck e (subst (λ l. HasAck p (l ++ w ∷ [])) none (subst (HasAck p) eu i))),
  ),
)
answered_words p t a number cur sp count kp xs ys vs w x q ws us lp e none may c en ep eu of h = absurd (may_answer count kp x may)

step_kept : (p : Contents)
    → IsRead p → (t : Assigned) (a : Attempt) (act : Step) (s : State) (o : Received) (fs : List FileBytes) → Can p act s → Books p s o fs
    → IsOf p (Some t) a → KeptBy p t a s.source s.to_source → AfterLabel p (Some t) a (label act) (after p act s)
step_kept p good t a (Load v) s o fs c b of h = let none = c.1 in let some = h.1 in absurd (cc (none, some))
step_kept p good t a (Sent i) s o fs c b of h =
    let f = b.holds in
    let says = sends p good s.source i.word f.file f.current c.1 in
    let word =
    subst (λ m. next_word p.codes m (Some t.unit) s.source.phase ≡ Some i.word) h.0
    (subst (λ x. next_word p.codes s.source.number x s.source.phase ≡ Some i.word) h.1 c.1) in
    let said =
    subst (λ m. next_message m (Some t.unit) s.source.phase ≡ Some says.said) h.0
    (subst (λ x. next_message s.source.number x s.source.phase ≡ Some says.said) h.1 says.next) in
    let now = sound_now p s o fs t.unit b h.1 in
    let sound : IsSound p t = record {
      unit = now.unit;
      file = subst (λ (m : UnitNumber). m.file ≤ 255) h.0 now.file;
      ldu = subst (λ (m : UnitNumber). m.ldu ≤ p.codes.first_ldu + 254) h.0 now.ldu;
      give_ups =
          let same = h.2 in let few = now.give_ups in omega arith;
    } in
    after_on p (Some t) a i bus.A says.said _ _ _ _ c.0 says.says
    (sent_assigned p t a i.word says.said s.source.phase _ _ s.to_source s.sink.phase word said sound of h.3 h.4
    (λ idle. no_ack p s.to_source (idle_alone p s f idle).1) (h.0, h.1, h.2) (ap (λ x. after_word x s.source.phase) h.1))
step_kept p good t a SentLost s o fs c b of h = (
  of,
  inl (
    h.0,
    h.1,
    h.2,
    subst (λ x. Words p t.number t.unit (after_word x s.source.phase) s.to_source a.words) (sym h.1)
        (lost_kept p t.number t.unit s.source.phase s.to_source a.words (λ i. (idle_alone p s b.holds i).1) h.3),
    h.4,
  ),
)
step_kept p good t a TimeOut s o fs c b of h =
    (of, inl (h.0, h.1, h.2, words_all p t.number t.unit s.source.phase s.to_source a.words h.3, h.4))
step_kept p good t a TakeAnswer s o fs c b of h = (
  of,
  hear_assigned p t a s.source s.sink.phase s.sink.count s.to_sink s.to_source b.holds.xs b.holds.ys c b.holds.source_words b.holds.fits h,
)
step_kept p good t a LoseAnswer s o fs c b of h = (
  of,
  inl (
    h.0,
    h.1,
    h.2,
    unheard_kept p t.number t.unit _ _ _ _ _ _ _ s.to_source a.words c b.holds.source_words b.holds.fits h.3,
    λ i. absurd (lose_gone p _ _ _ _ _ s.to_source b.holds.xs b.holds.ys c b.holds.source_words b.holds.fits i),
  ),
)
step_kept p good t a SinkTakes s o fs c b of h = (of, inl h)
step_kept p good t a Silent s o fs c b of h = (of, inl h)
step_kept p good t a (Answered i) s o fs c b of h =
    let f = b.holds in
    let r = owed_form p s i c in
    let alone = owes_alone _ _ _ _ _ _ _ (may_owes s.sink.count s.sink.phase r.said r.owed) f.fits in
    let none = none_say p bus.B s.to_source f.ys f.source_words alone.2 in
    after_on p (Some t) a i bus.B r.said _ _ _ _ c.0 r.is
    (answered_words p t a s.source.number s.source.current s.source.phase s.sink.count s.sink.phase f.xs f.ys s.to_source i.word r.said
    s.source _ (s.to_source ++ i.word ∷ []) _ r.is none r.owed f.fits h.0 refl refl of h)
step_kept p good t a (FreeSeen i) s o fs c b of h = after_free p (Some t) a i.bus i.word _ _ _ _ _ (good.free i.bus i.word c) (of, inl h)
step_kept p good t a GiveUp s o fs c b of h = (
  of,
  inr (
    inl (1, omega arith, ap (λ (m : UnitNumber). (m.file + 1) % 256) h.0, refl, let same = h.2 in omega arith),
    idle_now s.source.phase c.0,
  ),
)
  where
    idle_now : (sp : SourceState) → IsIdle sp → Resting sp s.to_sink s.to_source s.sink.phase
    idle_now Idle i = tt
    idle_now _ i = absurd i

stands_left : (p : Contents) (now : Option Assigned) (a : Attempt) (q : Source) (ws vs : List ℕ) (kp : SinkPhase)
    → LeftBy p now a q ws vs kp → StandsBy p now a q ws vs kp
stands_left p None a q ws vs kp h = h
stands_left p (Some t) a q ws vs kp h = inr h

step_left : (p : Contents) → IsRead p → (now : Option Assigned) (a : Attempt) (act : Step) (s : State) (o : Received) (fs : List FileBytes)
    → Can p act s → Books p s o fs → IsOf p now a → LeftBy p now a s.source s.to_sink s.to_source s.sink.phase
    → AfterLabel p now a (label act) (after p act s)
step_left p good now a (Load v) s o fs c b of h = (of, stands_left p now a _ _ _ _ h)
step_left p good now a (Sent i) s o fs c b of h =
    let f = b.holds in
    let alone = rests_alone p s f s.source.phase refl h.1 in
    let says = sends p good s.source i.word f.file f.current c.1 in
    after_on p now a i bus.A says.said _ _ _ _ c.0 says.says
    (left_sends p now a s o fs i.word says.said _ _ b s.source.current s.source.phase refl h.1 says.next h.0 (no_ack p s.to_source alone.1)
    (refl, refl, refl))
step_left p good now a SentLost s o fs c b of h = (
  of,
  stands_left p now a _ _ _ _ (
    h.0,
    lost_rests s.source.current s.source.phase s.to_sink s.to_source s.sink.phase (rests_alone p s b.holds s.source.phase refl h.1) h.1,
  ),
)
step_left p good now a TimeOut s o fs c b of h = (of, stands_left p now a _ _ _ _ (h.0, tt))
step_left p good now a TakeAnswer s o fs c b of h = absurd (none_there s.to_source (rests_alone p s b.holds s.source.phase refl h.1).1 c)
step_left p good now a LoseAnswer s o fs c b of h = absurd (none_there s.to_source (rests_alone p s b.holds s.source.phase refl h.1).1 c)
step_left p good now a SinkTakes s o fs c b of h = absurd (none_there s.to_sink (rests_alone p s b.holds s.source.phase refl h.1).0 c.0)
step_left p good now a Silent s o fs c b of h = absurd (owes_listens s.sink.phase c (rests_alone p s b.holds s.source.phase refl h.1).2)
step_left p good now a (Answered i) s o fs c b of h =
    let r = owed_form p s i c in
    absurd (owes_listens s.sink.phase (may_owes s.sink.count s.sink.phase r.said r.owed)
    (rests_alone p s b.holds s.source.phase refl h.1).2)
step_left p good now a (FreeSeen i) s o fs c b of h =
    after_free p now a i.bus i.word _ _ _ _ _ (good.free i.bus i.word c) (of, stands_left p now a _ _ _ _ h)
step_left p good now a GiveUp s o fs c b of h =
    (of, stands_left p now a _ _ _ _ (comes_more p.codes now (is_some a.acked) s.source.number s.source.give_ups h.0, h.1))

step_assigned : (p : Contents)
    → IsRead p → (now : Option Assigned) (a : Attempt) (act : Step) (s : State) (o : Received) (fs : List FileBytes) → Can p act s
    → Books p s o fs → Assigns p now a s → AfterLabel p now a (label act) (after p act s)
step_assigned p good None a act s o fs c b (of, h) = step_left p good None a act s o fs c b of h
step_assigned p good (Some t) a act s o fs c b (of, inl h) = step_kept p good t a act s o fs c b of h
step_assigned p good (Some t) a act s o fs c b (of, inr h) = step_left p good (Some t) a act s o fs c b of h

-- ---- the walk

pub record GoesOn (p : Contents) (now : Option Assigned) (attempts : List Attempt) : Type 0 where
  pub units : List Assigned
  pub are : GoOnAssigned p now attempts units

-- a next attempt begins
begins_next : (p : Contents) (now : Option Assigned) (a : Attempt) (t : Assigned) (n : ℕ) (l : List Attempt)
    → IsOf p now a → IsSound p t → IsNext p.codes now (is_some a.acked) t → GoesOn p (Some t) l → GoesOn p now (a ∷ l)
begins_next p now a t n [] of sound next g = absurd g.are
begins_next p now a t n (b ∷ l) of sound next g = record { units = t ∷ g.units; are = (of, (sound, next, g.are.0, g.are.1)) }

item_assigned : (p : Contents) (now : Option Assigned) (a : Attempt) (i : Seen) (s : State) (items : List Seen)
    → IsOf p now a → (asked : Option ℕ)
    → AfterAsk p now a (grown i.bus i.word (form_of p.codes i.bus i.word) a) asked s.source s.to_sink s.to_source s.sink.phase
    → ((later : Option Assigned) (b : Attempt) → Assigns p later b s → GoesOn p later (attempts_from p b items))
    → GoesOn p now (goes_on_to i (form_of p.codes i.bus i.word) a asked (λ b. attempts_from p b items))
item_assigned p now a i s items of None h next = next now (grown i.bus i.word (form_of p.codes i.bus i.word) a) h
item_assigned p now a i s items of (Some n) (t, sound, count, is, stands) next =
    begins_next p now a t n (attempts_from p (fresh n) items) of sound is (next (Some t) (fresh n) stands)

label_assigned : (p : Contents) (now : Option Assigned) (a : Attempt) (l : Option Seen) (i : Seen) (items more rest : List Seen) (s : State)
    → IsOf p now a → AfterLabel p now a l s
    → ((later : Option Assigned) (b : Attempt) (front : List Seen) → Assigns p later b s → rest ≡ front ++ more
    → GoesOn p later (attempts_from p b front))
    → with_label l rest ≡ i ∷ (items ++ more) → GoesOn p now (attempts_from p a (i ∷ items))
label_assigned p now a None i items more rest s of h next e = next now a (i ∷ items) h e
label_assigned p now a (Some j) i items more rest s of h next e =
    let same : j ≡ i = cc in
    let left : rest ≡ items ++ more = cc in
    subst (λ x. GoesOn p now (attempts_from p a (x ∷ items))) same
    (item_assigned p now a j s items of (asks j.bus (form_of p.codes j.bus j.word)) h (λ later b t. next later b items t left))

pub run_assigned : (p : Contents) → IsRead p
    → (steps : List Step) (s : State) (o : Received) (fs : List FileBytes) (now : Option Assigned) (a : Attempt) (items more : List Seen)
    → IsRun p steps s → Books p s o fs → Assigns p now a s → trace steps ≡ items ++ more → GoesOn p now (attempts_from p a items)
run_assigned p good steps s o fs now a [] more h b t e = record { units = []; are = (t.0, tt) }
run_assigned p good [] s o fs now a (i ∷ items) more h b t e = absurd (cc e)
run_assigned p good (act ∷ steps) s o fs now a (i ∷ items) more h b t e =
    let next : Books p (after p act s) (offers p act s o) (settles p act s o fs) =
    record { holds = step_holds p good act s h.0 b.holds; crosses = step_crosses p good act s o fs h.0 b.holds b.crosses } in
    label_assigned p now a (label act) i items more (trace steps) (after p act s) t.0 (step_assigned p good now a act s o fs h.0 b t)
    (λ later c front u left.
    run_assigned p good steps (after p act s) (offers p act s o) (settles p act s o fs) later c front more h.1 next u left) e

-- the attempts of each beginning of a run's trace can be assigned
pub run_assignable : (p : Contents) → IsRead p → (items : List Seen) → BeginsARun p items → IsAssignable p items
run_assignable p good items r =
    let g =
    run_assigned p good r.steps (start p r.first) nothing_received [] None (fresh 0) items r.more r.run (start_books p r.first r.byte)
    (tt, (refl, tt)) r.records in
    record { units = g.units; are = g.are }
