-- What a run records from a request on begins a run itself, or goes on from the link data unit that its sink accepted last.
use Rattle.std.proofs.Common.{◌≡◌, ◌⊎◌, ℕ, suc, ◌+◌, ◌%◌, Bool, true, false, cond, eqb, ◌&&◌, List, [], ◌∷◌, ◌++◌, Option, Some, None, is_some, refl, sym, ap, ◌∙◌, subst, inl, inr, arith}
use Rattle.a429_word.specs.declared.bus.Bus.{Bus}
use Rattle.a429_word.specs.declared.bus.Bus.TheVariants as bus
use Rattle.a429_word.proofs.Outcomes.{some_value}
use Rattle.a429_word.proofs.ListFacts.{no_middle}
use Rattle.a429_profile.specs.Profile.{Contents, IsProfile}
use Rattle.a429_ldu.specs.declared.forms.Form.{Form}
use Rattle.a429_ldu.specs.declared.forms.Form.TheVariants as form
use Rattle.a429_ldu.specs.Form.{form_of}
use Rattle.a429_ldu.specs.Ldu.{LduValue, block_of, count_of}
use Rattle.a429_link.specs.declared.file.FileBytes.{FileBytes}
use Rattle.a429_link.specs.declared.number.UnitNumber.{UnitNumber}
use Rattle.a429_link.specs.declared.seen.Seen.{Seen}
use Rattle.a429_link.specs.declared.state.SourceState.{SourceState}
use Rattle.a429_link.specs.declared.state.SourceState.TheVariants.{Awaiting, Idle, Sending, Waiting}
use Rattle.a429_link.specs.declared.step.Step.{Step}
use Rattle.a429_link.specs.declared.step.Step.TheVariants.{Answered, FreeSeen, GiveUp, Load, LoseAnswer, Sent, SentLost, Silent, SinkTakes, TakeAnswer, TimeOut}
use Rattle.a429_profile.specs.declared.codes.Codes.{Codes}
use Rattle.a429_link.specs.Number.{first_number}
use Rattle.a429_link.specs.Observer.{Allows, AllowsForm, AreAllowed, Observer, at_first, sees_form}
use Rattle.a429_link.specs.Run.{BeginsARun, IsPartOfARun, IsRun, offers, settles, trace, with_label}
use Rattle.a429_link.specs.Sink.{Number, OwesClear, Received, Sink, SinkPhase, nothing_received, takes_first}
use Rattle.a429_link.specs.Source.{IsIdle, Source, acknowledged, with_answer_first}
use Rattle.a429_link.specs.State.{IsNonEmpty, State, rest, start}
use Rattle.a429_link.specs.Step.{Can, after, label}
use Rattle.a429_link.specs.Trace.{sink_at_first}
use Rattle.a429_link.specs.Attempt.{Attempt, asks, attempts_from, fresh, goes_on_to}
use Rattle.a429_link.specs.Assignment.{AreAssigned, Assigned, ComesTo, GoOnAssigned, IsOf}
use Rattle.a429_link.specs.Piece.{BeginsWithRequest, FollowsUnit, IsReachable, accepted_as, observer_past}
use Rattle.a429_link.proofs.AssignedRun.{all_allowed, run_is_assigned}
use Rattle.a429_link.proofs.Message.{Ack, AllSay, Cts, IsRead, MaySay, Message, Nak, Rts, answers_as, answers_message, block_messages, message_in, message_of, next_message, none_say, with_answer_as, with_answer_message}
use Rattle.a429_link.proofs.MessageSubsequence.{IsBlockWord}
use Rattle.a429_link.proofs.NumberStages.{Resting, words_none}
use Rattle.a429_link.proofs.ObserverRefuses.{seeing}
use Rattle.a429_link.proofs.RunAssigned.{StandsBy, comes_more, run_assigned, sound_now}
use Rattle.a429_link.proofs.RunCrossing.{Books, HasAccepted, HasAck, IsAck, start_books, step_crosses, takes_last}
use Rattle.a429_link.proofs.RunTraces.{AllAllowed, see_label, trace_allowed}
use Rattle.a429_link.proofs.SinkFromTrace.{Alike, sees, step_alike}
use Rattle.a429_link.proofs.StateConfigs.{Config, acked, block_words_each, cleared, may_answer, may_owes, owes_alone, refused, source_at}
use Rattle.a429_link.proofs.StateHolds.{owed_form, sends, step_holds, each_get}
use Rattle.a429_link.proofs.Subsequence.{sub_none}
use Rattle.a429_link.proofs.NumbersCome.{take_all_last}

-- ---- the observer after a request: of all that was before only the link data unit acknowledged last counts

abbrev asking : Option Number → ℕ → Bool → ℕ → Observer
asking last count begun parts = record { last = last; count = count; phase = OwesClear; begun = begun; parts = parts }

allows_same : (last : Option Number) (count : ℕ) (s t : Bool) (m n : ℕ) (b : Bus) (x : Option Form)
    → AllowsForm (asking last count s m) b x → AllowsForm (asking last count t n) b x
allows_same last count s t m n b None h = absurd h
allows_same last count s t m n bus.A (Some (form.Rts q)) h = tt
allows_same last count s t m n bus.A (Some (form.Sot g f l)) h = absurd h.0
allows_same last count s t m n bus.A (Some (form.Part q)) h = absurd h.0
allows_same last count s t m n bus.A (Some (form.Eot f c)) h = absurd h
allows_same last count s t m n bus.A (Some (form.Cts q)) h = absurd h
allows_same last count s t m n bus.A (Some (form.Ack f l)) h = absurd h
allows_same last count s t m n bus.A (Some (form.Nak q)) h = absurd h
allows_same last count s t m n bus.B (Some x) h = h

item_same : (p : Contents) (last : Option Number) (count : ℕ) (s t : Bool) (m n : ℕ) (b : Bus) (w : ℕ) (x : Option Form) (items : List Seen)
    → ((x ≡ None) ⊎ AllowsForm (asking last count s m) b x)
    → ((count : ℕ) → AreAllowed p (asking last count s m) items → AreAllowed p (asking last count t n) items)
    → AreAllowed p (sees_form p b w x (asking last count s m)) items → AreAllowed p (sees_form p b w x (asking last count t n)) items
item_same p last count s t m n b w None items a rec h = rec count h
item_same p last count s t m n b w (Some x) items (inl e) rec h = absurd (cc e)
item_same p last count s t m n bus.A w (Some (form.Rts q)) items (inr a) rec h = rec q h
item_same p last count s t m n bus.A w (Some (form.Sot g f l)) items (inr a) rec h = absurd a.0
item_same p last count s t m n bus.A w (Some (form.Part q)) items (inr a) rec h = absurd a.0
item_same p last count s t m n bus.A w (Some (form.Eot f c)) items (inr a) rec h = absurd a
item_same p last count s t m n bus.A w (Some (form.Cts q)) items (inr a) rec h = absurd a
item_same p last count s t m n bus.A w (Some (form.Ack f l)) items (inr a) rec h = absurd a
item_same p last count s t m n bus.A w (Some (form.Nak q)) items (inr a) rec h = absurd a
item_same p last count s t m n bus.B w (Some (form.Cts q)) items (inr a) rec h = h
item_same p last count s t m n bus.B w (Some (form.Rts q)) items (inr a) rec h = absurd a
item_same p last count s t m n bus.B w (Some (form.Ack f l)) items (inr a) rec h = absurd a
item_same p last count s t m n bus.B w (Some (form.Nak q)) items (inr a) rec h = absurd a
item_same p last count s t m n bus.B w (Some (form.Sot g f l)) items (inr a) rec h = absurd a
item_same p last count s t m n bus.B w (Some (form.Part q)) items (inr a) rec h = absurd a
item_same p last count s t m n bus.B w (Some (form.Eot f c)) items (inr a) rec h = absurd a

asked_same : (p : Contents) → IsRead p → (last : Option Number) (s t : Bool) (m n : ℕ) (items : List Seen) (count : ℕ)
    → AreAllowed p (asking last count s m) items → AreAllowed p (asking last count t n) items
asked_same p good last s t m n [] count h = tt
asked_same p good last s t m n (i ∷ items) count h = (
  here h.0,
  item_same p last count s t m n i.bus i.word (form_of p.codes i.bus i.word) items (form_or h.0)
      (λ c a. asked_same p good last s t m n items c a) h.1,
)
  where
    here : Allows p (asking last count s m) i → Allows p (asking last count t n) i
    here (inl e) = inl e
    here (inr a) = inr (allows_same last count s t m n i.bus (form_of p.codes i.bus i.word) a)

    form_or : Allows p (asking last count s m) i
        → (form_of p.codes i.bus i.word ≡ None) ⊎ AllowsForm (asking last count s m) i.bus (form_of p.codes i.bus i.word)
    form_or (inl e) = inl (good.free i.bus i.word e)
    form_or (inr a) = inr a

-- a request is seen, and is always allowed
request_seen : (p : Contents) (b : Bus) (w n : ℕ) (x : Option Form) (o : Observer)
    → asks b x ≡ Some n → sees_form p b w x o ≡ asking o.last n o.begun o.parts
request_seen p bus.A w n (Some (form.Rts m)) o e = let same : m ≡ n = cc in ap (λ c. asking o.last c o.begun o.parts) same
request_seen p bus.A w n None o e = absurd (cc e)
request_seen p bus.A w n (Some (form.Cts m)) o e = absurd (cc e)
request_seen p bus.A w n (Some (form.Ack f l)) o e = absurd (cc e)
request_seen p bus.A w n (Some (form.Nak m)) o e = absurd (cc e)
request_seen p bus.A w n (Some (form.Sot g f l)) o e = absurd (cc e)
request_seen p bus.A w n (Some (form.Part m)) o e = absurd (cc e)
request_seen p bus.A w n (Some (form.Eot f c)) o e = absurd (cc e)
request_seen p bus.B w n x o e = absurd (cc e)

request_allowed : (b : Bus) (n : ℕ) (x : Option Form) (o : Observer) → asks b x ≡ Some n → AllowsForm o b x
request_allowed bus.A n (Some (form.Rts m)) o e = tt
request_allowed bus.A n None o e = absurd (cc e)
request_allowed bus.A n (Some (form.Cts m)) o e = absurd (cc e)
request_allowed bus.A n (Some (form.Ack f l)) o e = absurd (cc e)
request_allowed bus.A n (Some (form.Nak m)) o e = absurd (cc e)
request_allowed bus.A n (Some (form.Sot g f l)) o e = absurd (cc e)
request_allowed bus.A n (Some (form.Part m)) o e = absurd (cc e)
request_allowed bus.A n (Some (form.Eot f c)) o e = absurd (cc e)
request_allowed bus.B n x o e = absurd (cc e)

pub allowed_by_last : (p : Contents) → IsRead p → (i : Seen) (n : ℕ) (items : List Seen) (o r : Observer)
    → asks i.bus (form_of p.codes i.bus i.word) ≡ Some n → o.last ≡ r.last → AreAllowed p o (i ∷ items) → AreAllowed p r (i ∷ items)
allowed_by_last p good i n items o r e last h =
    let x = form_of p.codes i.bus i.word in
    let seen = subst (λ (z : Observer). AreAllowed p z items) (request_seen p i.bus i.word n x o e) h.1 in
    let same =
    asked_same p good r.last o.begun r.begun o.parts r.parts items n
    (subst (λ l. AreAllowed p (asking l n o.begun o.parts) items) last seen) in
    (inr (request_allowed i.bus n x r e), subst (λ (z : Observer). AreAllowed p z items) (sym (request_seen p i.bus i.word n x r e)) same)

-- ---- a request is sent by an idle source

asks_says : (w n : ℕ) (x : Option Form) → asks bus.A x ≡ Some n → message_in w x ≡ Some (Rts n)
asks_says w n (Some (form.Rts m)) e = let same : m ≡ n = cc in ap (λ c. Some (Rts c)) same
asks_says w n None e = absurd (cc e)
asks_says w n (Some (form.Cts m)) e = absurd (cc e)
asks_says w n (Some (form.Ack f l)) e = absurd (cc e)
asks_says w n (Some (form.Nak m)) e = absurd (cc e)
asks_says w n (Some (form.Sot g f l)) e = absurd (cc e)
asks_says w n (Some (form.Part m)) e = absurd (cc e)
asks_says w n (Some (form.Eot f c)) e = absurd (cc e)

asks_none : (b : Bus) (n : ℕ) (x : Option Form) → x ≡ None → asks b x ≡ Some n → ⊥
asks_none bus.A n None h e = cc e
asks_none bus.B n None h e = cc e
asks_none b n (Some x) h e = cc h

idle_asks : (number : UnitNumber) (cur : Option LduValue) (sp : SourceState) (n : ℕ) → next_message number cur sp ≡ Some (Rts n) → IsIdle sp
idle_asks number None sp n e = absurd (cc e)
idle_asks number (Some u) Idle n e = tt
idle_asks number (Some u) (Sending k) n e =
    absurd (each_get IsBlockWord k (block_messages u number) (Rts n) (block_words_each u number) e)
idle_asks number (Some u) Awaiting n e = absurd (cc e)
idle_asks number (Some u) Waiting n e = absurd (cc e)

idle_at_request : (p : Contents) → IsRead p → (a : Step) (s : State) (o : Received) (fs : List FileBytes) (i : Seen) (n : ℕ) → Can p a s
    → Books p s o fs → label a ≡ Some i → asks i.bus (form_of p.codes i.bus i.word) ≡ Some n → IsIdle s.source.phase
idle_at_request p good (Sent j) s o fs i n c b l e =
    let same : j ≡ i = cc in
    let here = subst (λ (z : Seen). asks z.bus (form_of p.codes z.bus z.word) ≡ Some n) (sym same) e in
    let there = subst (λ (z : Bus). asks z (form_of p.codes z j.word) ≡ Some n) c.0 here in
    let says = sends p good s.source j.word b.holds.file b.holds.current c.1 in
    let said : says.said ≡ Rts n = cc (says.says, asks_says j.word n (form_of p.codes bus.A j.word) there) in
    idle_asks s.source.number s.source.current s.source.phase n (says.next ∙ ap (λ x. Some x) said)
idle_at_request p good (Answered j) s o fs i n c b l e =
    let same : j ≡ i = cc in
    let here = subst (λ (z : Seen). asks z.bus (form_of p.codes z.bus z.word) ≡ Some n) (sym same) e in
    let there = subst (λ (z : Bus). asks z (form_of p.codes z j.word) ≡ Some n) c.0 here in
    absurd (cc there)
idle_at_request p good (FreeSeen j) s o fs i n c b l e =
    let same : j ≡ i = cc in
    let here = subst (λ (z : Seen). asks z.bus (form_of p.codes z.bus z.word) ≡ Some n) (sym same) e in
    absurd (asks_none j.bus n (form_of p.codes j.bus j.word) (good.free j.bus j.word c) here)
idle_at_request p good (Load u) s o fs i n c b l e = absurd (cc l)
idle_at_request p good SentLost s o fs i n c b l e = absurd (cc l)
idle_at_request p good TimeOut s o fs i n c b l e = absurd (cc l)
idle_at_request p good TakeAnswer s o fs i n c b l e = absurd (cc l)
idle_at_request p good LoseAnswer s o fs i n c b l e = absurd (cc l)
idle_at_request p good SinkTakes s o fs i n c b l e = absurd (cc l)
idle_at_request p good Silent s o fs i n c b l e = absurd (cc l)
idle_at_request p good GiveUp s o fs i n c b l e = absurd (cc l)

-- ---- how the source compares with the link data unit that the sink accepted last

-- files are given up right before a file's first number only
abbrev GivenUp : Codes → Source → Type 0
GivenUp c q = (q.give_ups ≡ 0) ⊎ (q.number.ldu ≡ c.first_ldu)

-- it is current, or the source has left it as one that was acknowledged
abbrev IsAtOrPast : Contents → Assigned → Source → Type 0
IsAtOrPast p t q =
    ((q.number ≡ t.number) × (q.current ≡ Some t.unit) × (q.give_ups ≡ t.give_ups)) ⊎ ComesTo p.codes (Some t) true q.number q.give_ups

record Since (p : Contents) (n : Number) (q : Source) : Type 0 where
  last : Assigned
  reachable : IsReachable p last
  same : n ≡ accepted_as p.codes last
  place : IsAtOrPast p last q

abbrev Follows : Contents → Option Number → Source → Type 0
Follows p None q = q.number.ldu ≡ p.codes.first_ldu
Follows p (Some n) q = Since p n q

abbrev Tracks : Contents → Option Number → Source → Type 0
Tracks p last q = GivenUp p.codes q × Follows p last q

abbrev with_phase : SourceState → Source → Source
with_phase sp q = record q { phase = sp }

other_phase : (p : Contents) (last : Option Number) (q : Source) (sp : SourceState) → Tracks p last q → Tracks p last (with_phase sp q)
other_phase p None q sp h = h
other_phase p (Some n) q sp (g, h) = (g, record { last = h.last; reachable = h.reachable; same = h.same; place = h.place })

either : (p : Contents) (last : Option Number) (b : Bool) (q r : Source) → Tracks p last q → Tracks p last r → Tracks p last (cond b q r)
either p last true q r h k = h
either p last false q r h k = k

loaded : (p : Contents) (last : Option Number) (q : Source) (u : LduValue)
    → q.current ≡ None → Tracks p last q → Tracks p last (record q { current = Some u })
loaded p None q u e h = h
loaded p (Some n) q u e (g, h) = (g, record { last = h.last; reachable = h.reachable; same = h.same; place = still h.place })
  where
    still : IsAtOrPast p h.last q → IsAtOrPast p h.last (record q { current = Some u })
    still (inl same) = let now = same.1 in absurd (cc (e, now))
    still (inr past) = inr past

gave_up : (p : Contents) (last : Option Number) (q : Source) → Tracks p last q
    → Tracks p last
    (record { number = first_number p.codes ((q.number.file + 1) % 256); current = None; phase = q.phase; give_ups = suc q.give_ups })
gave_up p None q h = (inr refl, refl)
gave_up p (Some n) q (g, h) = (inr refl, record { last = h.last; reachable = h.reachable; same = h.same; place = inr (past h.place) })
  where
    past : IsAtOrPast p h.last q → ComesTo p.codes (Some h.last) true (first_number p.codes ((q.number.file + 1) % 256)) (suc q.give_ups)
    past (inl same) = inl (1, omega arith, ap (λ (m : UnitNumber). (m.file + 1) % 256) same.0, refl, let count = same.2 in omega arith)
    past (inr left) = comes_more p.codes (Some h.last) true q.number q.give_ups left

-- the source's link data unit
abbrev current_of : Source → LduValue → Assigned
current_of q u = record { number = q.number; unit = u; give_ups = q.give_ups }

reachable_now : (p : Contents) (s : State) (o : Received) (fs : List FileBytes) (u : LduValue)
    → Books p s o fs → GivenUp p.codes s.source → s.source.current ≡ Some u → IsReachable p (current_of s.source u)
reachable_now p s o fs u b g e = record { sound = sound_now p s o fs u b e; low = b.crosses.room.low; given_up = g }

-- it is the one that the sink accepted last
abbrev IsLast : Contents → Option Number → Source → Type 0
IsLast p last q = (u : LduValue)
    → q.current ≡ Some u → (last ≡ Some (accepted_as p.codes (current_of q u))) × IsReachable p (current_of q u)

last_accepted : (p : Contents) (number : UnitNumber) (cur : Option LduValue) (last : Option Number) (received o : Received)
    (fs : List FileBytes) (g : ℕ) (u : LduValue)
    → HasAccepted p number cur last received o fs → cur ≡ Some u
    → last ≡ Some (record { number = number; final = (accepted_as p.codes (record { number = number; unit = u; give_ups = g })).final })
last_accepted p number None last received o fs g u h e = absurd h
last_accepted p number (Some v) last received o fs g u h e =
    let same : v ≡ u = cc in
    h.last_is ∙ ap (λ (x : LduValue). Some (accepted_as p.codes (record { number = number; unit = x; give_ups = g }))) same

acked_last : (p : Contents) (s : State) (o : Received) (fs : List FileBytes)
    → Books p s o fs → GivenUp p.codes s.source → HasAck p s.to_source → IsLast p s.sink.last s.source
acked_last p s o fs b g h u e = (
  last_accepted p s.source.number s.source.current s.sink.last s.sink.received o fs s.source.give_ups u (b.crosses.accepted h) e,
  reachable_now p s o fs u b g e,
)

-- ---- answers

heard : (p : Contents) (g : ℕ) (number : UnitNumber) (cur : Option LduValue) (sp : SourceState) (count : ℕ) (kp : SinkPhase)
    (xs : List Message) (y : Message) (ys : List Message) (last : Option Number) (v : ℕ)
    → message_of p bus.B v ≡ Some y → Config number cur sp count kp xs (y ∷ ys)
    → (IsAck (message_of p bus.B v) → IsLast p last (source_at g number cur sp)) → Tracks p last (source_at g number cur sp)
    → Tracks p last (with_answer_message p cur sp y (source_at g number cur sp))
heard p g number cur sp count kp xs y ys last v e (cleared {u} {n} r q) own h =
    either p last (eqb n (count_of u)) _ _ (other_phase p last (source_at g number (Some u) Awaiting) (Sending 0) h) h
heard p g number cur sp count kp xs y ys last v e (refused {u} r) own h = other_phase p last (source_at g number (Some u) Waiting) Idle h
heard p g number cur sp count kp xs y ys last v e (acked {u} {f} {l} r ef el) own h =
    let now = own (subst IsAck (sym e) tt) u refl in
    let t = current_of (source_at g number (Some u) Waiting) u in
    let next = acknowledged p.codes u (source_at g number (Some u) Waiting) in
    let since : Tracks p last next = subst (λ z. Tracks p z next) (sym now.0) (
      inl refl,
      record { last = t; reachable = now.1; same = refl; place = inr (inr (refl, inl (refl, refl))) },
    ) in
    either p last (eqb f number.file && eqb l number.ldu) _ _ since h

heard_first : (p : Contents) (source : Source) (count : ℕ) (kp : SinkPhase) (last : Option Number) (vs : List ℕ) (xs ys : List Message)
    → IsNonEmpty vs → AllSay p bus.B vs ys → Config source.number source.current source.phase count kp xs ys
    → (HasAck p vs → IsLast p last source) → Tracks p last source → Tracks p last (with_answer_first p.codes vs source)
heard_first p source count kp last [] xs ys n d f own h = absurd n
heard_first p source count kp last (v ∷ vs) xs [] n d f own h = absurd d
heard_first p source count kp last (v ∷ vs) xs (y ∷ ys) n d f own h =
    subst (λ q. Tracks p last q) (sym (with_answer_as p v y source d.0))
    (heard p source.give_ups source.number source.current source.phase count kp xs y ys last v d.0 f own h)

takes_first_last : (p : Contents) (ws : List ℕ) (k : Sink) → (takes_first p ws k).last ≡ k.last
takes_first_last p [] k = refl
takes_first_last p (w ∷ ws) k = takes_last p w (form_of p.codes bus.A w) k

-- the sink has just acknowledged the current link data unit
accepts_current : (p : Contents) (last : Option Number) (cur : Option LduValue) (q : Source) (received o : Received) (fs : List FileBytes)
    → q.current ≡ cur → HasAccepted p q.number cur last received o fs → IsLast p last q → GivenUp p.codes q → Tracks p last q
accepts_current p last None q received o fs e h own g = absurd h
accepts_current p last (Some u) q received o fs e h own g =
    let now = own u e in (
      g,
      subst (λ z. Follows p z q) (sym now.0)
          (record { last = current_of q u; reachable = now.1; same = refl; place = inl (refl, e, refl) }),
    )

answered : (p : Contents) (s t : State) (o : Received) (fs : List FileBytes) (w : ℕ) (x : Message) (count : ℕ) (kp : SinkPhase)
    → message_of p bus.B w ≡ Some x → MaySay count kp x → s.to_source ≡ [] → t.source ≡ s.source → t.to_source ≡ s.to_source ++ w ∷ []
    → t.sink ≡ answers_message p x s.sink → Books p t o fs → Tracks p s.sink.last s.source → Tracks p t.sink.last t.source
answered p s t o fs w (Cts n) count kp e m none eq es ek b h =
    subst (λ (k : Sink). Tracks p k.last t.source) (sym ek) (subst (λ q. Tracks p s.sink.last q) (sym eq) h)
answered p s t o fs w (Nak n) count kp e m none eq es ek b h =
    subst (λ (k : Sink). Tracks p k.last t.source) (sym ek) (subst (λ q. Tracks p s.sink.last q) (sym eq) h)
answered p s t o fs w (Ack f l) count kp e m none eq es ek b h =
    let given : GivenUp p.codes t.source = subst (λ (q : Source). GivenUp p.codes q) (sym eq) h.0 in
    let ack : HasAck p t.to_source = subst (HasAck p) (sym (es ∙ ap (λ vs. vs ++ w ∷ []) none)) (subst IsAck (sym e) tt) in
    accepts_current p t.sink.last t.source.current t.source t.sink.received o fs refl (b.crosses.accepted ack)
    (acked_last p t o fs b given ack) given
answered p s t o fs w x count kp e m none eq es ek b h = absurd (may_answer count kp x m)

-- ---- the steps

abbrev TracksAt : Contents → State → Type 0
TracksAt p s = Tracks p s.sink.last s.source

step_tracks : (p : Contents) → IsRead p → (a : Step) (s : State) (o r : Received) (fs gs : List FileBytes) → Can p a s → Books p s o fs
    → Books p (after p a s) r gs → TracksAt p s → TracksAt p (after p a s)
step_tracks p good (Load u) s o r fs gs c b d h = loaded p s.sink.last s.source u c.1 h
step_tracks p good (Sent i) s o r fs gs c b d h = other_phase p s.sink.last s.source _ h
step_tracks p good SentLost s o r fs gs c b d h = other_phase p s.sink.last s.source _ h
step_tracks p good TimeOut s o r fs gs c b d h = other_phase p s.sink.last s.source _ h
step_tracks p good TakeAnswer s o r fs gs c b d h =
    heard_first p s.source s.sink.count s.sink.phase s.sink.last s.to_source b.holds.xs b.holds.ys c b.holds.source_words b.holds.fits
    (λ a. acked_last p s o fs b h.0 a) h
step_tracks p good LoseAnswer s o r fs gs c b d h = h
step_tracks p good SinkTakes s o r fs gs c b d h = subst (λ l. Tracks p l s.source) (sym (takes_first_last p s.to_sink s.sink)) h
step_tracks p good Silent s o r fs gs c b d h = h
step_tracks p good (Answered i) s o r fs gs c b d h =
    let f = b.holds in
    let said = owed_form p s i c in
    let alone = owes_alone _ _ _ _ _ _ _ (may_owes s.sink.count s.sink.phase said.said said.owed) f.fits in
    let none = none_say p bus.B s.to_source f.ys f.source_words alone.2 in
    answered p s (after p (Answered i) s) r gs i.word said.said s.sink.count s.sink.phase said.is said.owed none refl refl
    (answers_as p i.word said.said s.sink said.is) d h
step_tracks p good (FreeSeen i) s o r fs gs c b d h = h
step_tracks p good GiveUp s o r fs gs c b d h = gave_up p s.sink.last s.source h

-- ---- the walk to the request

-- a run comes to this state, and records these words from there
record AtRequest (p : Contents) (items : List Seen) : Type 0 where
  state : State
  received : Received
  settled : List FileBytes
  sink : Sink
  seen : List Message
  steps : List Step
  run : IsRun p steps state
  books : Books p state received settled
  tracks : TracksAt p state
  alike : Alike p state sink
  allowed : AllAllowed p (trace steps) sink seen
  records : trace steps ≡ items
  idle : IsIdle state.source.phase

-- the next recorded word is the one that is looked for, or one before it
found : {R : Type 0} (p : Contents) (l : Option Seen) (left : List Seen) (k : Sink) (seen : List Message) (before : List Seen) (i : Seen)
    (more : List Seen)
    → AllAllowed p (with_label l left) k seen → with_label l left ≡ before ++ i ∷ more → (l ≡ Some i → with_label l left ≡ i ∷ more → R)
    → ((front : List Seen) → AllAllowed p left (sees p l k) (see_label p l seen) → left ≡ front ++ i ∷ more → R) → R
found p None left k seen before i more al e here next = next before al e
found p (Some j) left k seen [] i more al e here next = let same : j ≡ i = cc in here (ap (λ x. Some x) same) e
found p (Some j) left k seen (b ∷ before) i more al e here next = let tail : left ≡ before ++ i ∷ more = cc in next before al.1 tail

to_request : (p : Contents)
    → IsRead p → (steps : List Step) (s : State) (o : Received) (fs : List FileBytes) (k : Sink) (seen : List Message) (before : List Seen)
    (i : Seen) (n : ℕ) (more : List Seen) → asks i.bus (form_of p.codes i.bus i.word) ≡ Some n → IsRun p steps s → Books p s o fs
    → TracksAt p s → Alike p s k → AllAllowed p (trace steps) k seen → trace steps ≡ before ++ i ∷ more → AtRequest p (i ∷ more)
to_request p good [] s o fs k seen before i n more q run b t m al e = absurd (no_middle before i more e)
to_request p good (a ∷ steps) s o fs k seen before i n more q run b t m al e =
    let later : Books p (after p a s) (offers p a s o) (settles p a s o fs) =
    record { holds = step_holds p good a s run.0 b.holds; crosses = step_crosses p good a s o fs run.0 b.holds b.crosses } in
    found p (label a) (trace steps) k seen before i more al e
    (λ l is. record {
      state = s;
      received = o;
      settled = fs;
      sink = k;
      seen = seen;
      steps = a ∷ steps;
      run = run;
      books = b;
      tracks = t;
      alike = m;
      allowed = al;
      records = is;
      idle = idle_at_request p good a s o fs i n run.0 b l q;
    })
    (λ front left is. to_request p good steps (after p a s) (offers p a s o) (settles p a s o fs) (sees p (label a) k)
    (see_label p (label a) seen) front i n more q run.1 later
    (step_tracks p good a s o (offers p a s o) fs (settles p a s o fs) run.0 b later t) (step_alike p good a s k run.0 b.holds m) left is)

-- ---- from there

alike_last : (p : Contents) (s : State) (k : Sink) → Alike p s k → k.last ≡ s.sink.last
alike_last p s k (inl e) = sym (ap (λ (z : Sink). z.last) e) ∙ take_all_last p s.to_sink s.sink
alike_last p s k (inr r) = sym (ap (λ (z : Sink). z.last) r.alike)

resting : (sp : SourceState) (ws vs : List ℕ) (kp : SinkPhase) → IsIdle sp → Resting sp ws vs kp
resting Idle ws vs kp h = tt
resting _ ws vs kp h = absurd h

-- an attempt to send this link data unit, which was acknowledged; none of its words is recorded
abbrev pub acked_attempt : Assigned → Attempt
acked_attempt t = record { count = count_of t.unit; words = []; acked = Some t.number }

-- the attempts after the first one
pub after_first : (p : Contents) (t : Assigned) (i : Seen) (items : List Seen) (n : ℕ) (a b : Attempt) (units : List Assigned)
    → asks i.bus (form_of p.codes i.bus i.word) ≡ Some n → GoOnAssigned p (Some t) (attempts_from p a (i ∷ items)) units
    → AreAssigned p (Some t) (is_some a.acked) (rest (attempts_from p b (i ∷ items))) units
after_first p t i items n a b units e h = by (asks i.bus (form_of p.codes i.bus i.word)) e h
  where
    by : (o : Option ℕ)
        → o ≡ Some n → GoOnAssigned p (Some t) (goes_on_to i (form_of p.codes i.bus i.word) a o (λ c. attempts_from p c items)) units
        → AreAssigned p (Some t) (is_some a.acked)
        (rest (goes_on_to i (form_of p.codes i.bus i.word) b o (λ c. attempts_from p c items))) units
    by None e h = absurd (cc e)
    by (Some m) e h = h.1

stands_after : (p : Contents) (t : Assigned) (q : Source) (ws vs : List ℕ) (kp : SinkPhase)
    → IsIdle q.phase → IsAtOrPast p t q → StandsBy p (Some t) (acked_attempt t) q ws vs kp
stands_after p t q ws vs kp idle (inl same) = inl (same.0, same.1, same.2, words_none p t.number t.unit q.phase vs, λ h. refl)
stands_after p t q ws vs kp idle (inr past) = inr (past, resting q.phase ws vs kp idle)

from_request : (p : Contents)
    → IsProfile p → IsRead p → (i : Seen) (items more : List Seen) (n : ℕ) → asks i.bus (form_of p.codes i.bus i.word) ≡ Some n
    → (w : AtRequest p (i ∷ items ++ more)) → BeginsARun p (i ∷ items) ⊎ FollowsUnit p (i ∷ items)
from_request p is good i items more n q w = by s.sink.last refl w.tracks.1
  where
    s : State
    s = w.state

    allowed : AreAllowed p (seeing w.sink w.seen) (i ∷ items)
    allowed =
        all_allowed p (i ∷ items) more w.sink w.seen (seeing w.sink w.seen) refl
        (subst (λ t. AllAllowed p t w.sink w.seen) w.records w.allowed)

    by : (last : Option Number) → s.sink.last ≡ last → Follows p last s.source → BeginsARun p (i ∷ items) ⊎ FollowsUnit p (i ∷ items)
    by None e first =
        let g = run_assigned p good w.steps s w.received w.settled None (fresh 0) (i ∷ items) more w.run w.books (
          tt,
          (first, resting s.source.phase s.to_sink s.to_source s.sink.phase w.idle),
        ) w.records in
        inl ((run_is_assigned p is good (i ∷ items)).1 (
          allowed_by_last p good i n items (seeing w.sink w.seen) at_first q (alike_last p s w.sink w.alike ∙ e) allowed,
          record { units = g.units; are = g.are },
        ))
    by (Some m) e since =
        let t = since.last in
        let of : IsOf p (Some t) (acked_attempt t) =
        (record { asked = refl; words = sub_none (block_of p.codes t.unit t.number.file t.number.ldu) }, refl) in
        let stands = stands_after p t s.source s.to_sink s.to_source s.sink.phase w.idle since.place in
        let g = run_assigned p good w.steps s w.received w.settled (Some t) (acked_attempt t) (i ∷ items) more w.run w.books (
          of,
          stands,
        ) w.records in
        inr (record {
          last = t;
          reachable = since.reachable;
          allowed =
              allowed_by_last p good i n items (seeing w.sink w.seen) (observer_past (accepted_as p.codes t)) q
              (alike_last p s w.sink w.alike ∙ e ∙ ap (λ x. Some x) since.same) allowed;
          units = g.units;
          are = after_first p t i items n (acked_attempt t) (fresh 0) g.units q g.are;
        })

pub piece_assigned : (p : Contents) → IsProfile p → IsRead p → (items : List Seen) → BeginsWithRequest p items → IsPartOfARun p items
    → BeginsARun p items ⊎ FollowsUnit p items
piece_assigned p is good [] begins r = absurd begins
piece_assigned p is good (i ∷ items) begins r =
    let asked = some_value (asks i.bus (form_of p.codes i.bus i.word)) begins in
    let at =
    to_request p good r.steps (start p r.first) nothing_received [] sink_at_first [] r.before i asked.0 (items ++ r.more) asked.1 r.run
    (start_books p r.first r.byte) (inl refl, refl) (inl refl) (trace_allowed p good r.first r.byte r.steps r.run) r.records in
    from_request p is good i items r.more asked.0 asked.1 at
