-- What a trace alone tells of the sink.
use Rattle.std.proofs.Common.{◌≡◌, ◌⊎◌, ℕ, ◌≤◌, true, List, [], ◌∷◌, ◌++◌, Option, Some, None, IsSome, refl, sym, ap, ◌∙◌, subst, inl, inr, ⊎_elim}
use Rattle.a429_word.specs.declared.bus.Bus.TheVariants as bus
use Rattle.a429_ldu.specs.Form.{form_of, is_free}
use Rattle.a429_ldu.specs.Ldu.{LduValue, count_of}
use Rattle.a429_link.proofs.Message.{IsRead, Rts, Message, next_is_some, next_message, takes_as, takes_message}
use Rattle.a429_link.specs.Run.{IsRun, delivered, end_of, trace, with_label}
use Rattle.a429_link.specs.Sink.{Owes, Quiet, Received, Sink, SinkPhase, answers_form, answers_word, takes_first, takes_form, takes_word}
use Rattle.a429_link.specs.Trace.{sink_after, sink_at_first, sink_sees}
use Rattle.a429_link.specs.Source.{Waits, after_word}
use Rattle.a429_link.specs.Step.{Can, after, label}
use Rattle.a429_link.specs.State.{rest, IsNonEmpty, start, State}
use Rattle.a429_link.specs.declared.state.SourceState.{SourceState}
use Rattle.a429_link.specs.declared.state.SourceState.TheVariants.{Awaiting, Idle, Sending, Waiting}
use Rattle.a429_link.specs.declared.seen.Seen.{Seen}
use Rattle.a429_link.specs.declared.step.Step.{Step}
use Rattle.a429_link.specs.declared.step.Step.TheVariants.{Answered, FreeSeen, GiveUp, Load, LoseAnswer, Sent, SentLost, Silent, SinkTakes, TakeAnswer, TimeOut}
use Rattle.a429_profile.specs.Profile.{Contents}
use Rattle.a429_word.specs.declared.bus.Bus.{Bus}
use Rattle.a429_link.proofs.StateConfigs.{may_owes}
use Rattle.a429_link.proofs.StateHolds.{HoldsAt, step_holds, start_holds, sends, owed_form, alone_on_the_way}
use Rattle.a429_ldu.specs.declared.forms.Form.{Form}
use Rattle.a429_ldu.specs.declared.forms.Form.TheVariants as form
use Rattle.a429_link.specs.declared.number.UnitNumber.{UnitNumber}

-- the trace's sink after a step's word
abbrev pub sees : Contents → Option Seen → Sink → Sink
sees p None k = k
sees p (Some i) k = sink_sees p i.bus i.word k

-- the sink after all words on the way
abbrev pub take_all : Contents → List ℕ → Sink → Sink
take_all p [] k = k
take_all p (w ∷ ws) k = take_all p ws (takes_word p w k)

take_all_push : (p : Contents) (w : ℕ) (ws : List ℕ) (k : Sink) → take_all p (ws ++ w ∷ []) k ≡ takes_word p w (take_all p ws k)
take_all_push p w [] k = refl
take_all_push p w (x ∷ ws) k = take_all_push p w ws (takes_word p x k)

take_all_first : (p : Contents) (ws : List ℕ) (k : Sink) → take_all p (rest ws) (takes_first p ws k) ≡ take_all p ws k
take_all_first p [] k = refl
take_all_first p (w ∷ ws) k = refl

-- the source is not in a block
abbrev pub IsStill : SourceState → Type 0
IsStill (Sending k) = ⊥
IsStill _ = Unit {0}

abbrev pub quieted : Sink → Sink
quieted k = record k { phase = Quiet }

-- the sink has kept silent, and nothing is on the way
pub record Rests (s : State) (k : Sink) : Type 0 where
  pub alike : s.sink ≡ quieted k
  pub still : IsStill s.source.phase
  pub no_words : s.to_sink ≡ []
  pub no_answers : s.to_source ≡ []

-- the sink of a run follows the trace's
abbrev pub Alike : Contents → State → Sink → Type 0
Alike p s k = (take_all p s.to_sink s.sink ≡ k) ⊎ Rests s k

-- a free word tells nothing
pub free_sees : (p : Contents) → IsRead p → (bus : Bus) (w : ℕ) (k : Sink) → is_free p.codes bus w ≡ true → sink_sees p bus w k ≡ k
free_sees p good bus.A w k e = ap (λ o. takes_form p w o k) (good.free bus.A w e)
free_sees p good bus.B w k e = ap (λ o. answers_form p.codes o k) (good.free bus.B w e)

waits_still : (sp : SourceState) → Waits sp → IsStill sp
waits_still Idle w = tt
waits_still Awaiting w = tt
waits_still (Sending k) w = w
waits_still Waiting w = tt

-- a step from where the words on the way lead to the trace's sink
step_on : (p : Contents) → IsRead p → (a : Step) (s : State) (k : Sink) → Can p a s → HoldsAt p s → take_all p s.to_sink s.sink ≡ k
    → Alike p (after p a s) (sees p (label a) k)
step_on p good (Load u) s k h c e = inl e
step_on p good (Sent i) s k h c e =
    subst (λ b. Alike p (after p (Sent i) s) (sink_sees p b i.word k)) (sym h.0)
    (inl (take_all_push p i.word s.to_sink s.sink ∙ ap (takes_word p i.word) e))
step_on p good SentLost s k h c e = inl e
step_on p good TimeOut s k h c e = inl e
step_on p good TakeAnswer s k h c e = inl e
step_on p good LoseAnswer s k h c e = inl e
step_on p good SinkTakes s k h c e = inl (take_all_first p s.to_sink s.sink ∙ e)
step_on p good Silent s k h c e =
    let alone = alone_on_the_way p s h c in
    inr (record {
      alike = ap quieted (subst (λ ws. take_all p ws s.sink ≡ k) alone.1 e);
      still = waits_still s.source.phase alone.0;
      no_words = alone.1;
      no_answers = alone.2;
    })
step_on p good (Answered i) s k h c e =
    let r = owed_form p s i h in
    let alone = alone_on_the_way p s (may_owes s.sink.count s.sink.phase r.said r.owed) c in
    subst (λ b. Alike p (after p (Answered i) s) (sink_sees p b i.word k)) (sym h.0)
    (inl (ap (λ ws. take_all p ws (answers_word p.codes i.word s.sink)) alone.1
    ∙ ap (answers_word p.codes i.word) (subst (λ ws. take_all p ws s.sink ≡ k) alone.1 e)))
step_on p good (FreeSeen i) s k h c e = inl (e ∙ sym (free_sees p good i.bus i.word k h))
step_on p good GiveUp s k h c e = inl e

pub none_there : (ws : List ℕ) → ws ≡ [] → IsNonEmpty ws → ⊥
none_there [] e n = n
none_there (w ∷ ws) e n = cc e

-- the only word that a source sends where it is in no block
sent_still : (p : Contents) (number : UnitNumber) (cur : Option LduValue) (sp : SourceState) (x : Message) (k : Sink)
    → next_message number cur sp ≡ Some x → IsStill sp → takes_message p x (quieted k) ≡ takes_message p x k
sent_still p number (Some u) Idle x k e i =
    let same : Rts (count_of u) ≡ x = cc in subst (λ y. takes_message p y (quieted k) ≡ takes_message p y k) same refl
sent_still p number (Some u) (Sending n) x k e i = absurd i
sent_still p number (Some u) Awaiting x k e i = absurd (cc e)
sent_still p number (Some u) Waiting x k e i = absurd (cc e)
sent_still p number None sp x k e i = absurd (cc e)

lost_still : (number : UnitNumber) (cur : Option LduValue) (sp : SourceState)
    → IsSome (next_message number cur sp) → IsStill sp → IsStill (after_word cur sp)
lost_still number None sp h i = absurd (cc h)
lost_still number (Some u) Idle h i = tt
lost_still number (Some u) (Sending n) h i = absurd i
lost_still number (Some u) Awaiting h i = tt
lost_still number (Some u) Waiting h i = tt

pub quiet_owes : (kp : SinkPhase) → kp ≡ Quiet → Owes kp → ⊥
quiet_owes kp e o = subst Owes e o

-- a step after the sink has kept silent
step_off : (p : Contents)
    → IsRead p → (a : Step) (s : State) (k : Sink) → Can p a s → HoldsAt p s → Rests s k → Alike p (after p a s) (sees p (label a) k)
step_off p good (Load u) s k h c r = inr (record { alike = r.alike; still = r.still; no_words = r.no_words; no_answers = r.no_answers })
step_off p good (Sent i) s k h c r =
    let says = sends p good s.source i.word c.file c.current h.1 in
    let same : takes_word p i.word (quieted k) ≡ takes_word p i.word k = takes_as p i.word says.said (quieted k) says.says
    ∙ sent_still p _ _ _ says.said k says.next r.still ∙ sym (takes_as p i.word says.said k says.says) in
    subst (λ b. Alike p (after p (Sent i) s) (sink_sees p b i.word k)) (sym h.0)
    (inl (take_all_push p i.word s.to_sink s.sink ∙ ap (λ ws. takes_word p i.word (take_all p ws s.sink)) r.no_words
    ∙ ap (takes_word p i.word) r.alike ∙ same))
step_off p good SentLost s k h c r =
    inr (record {
      alike = r.alike;
      still =
          lost_still s.source.number s.source.current s.source.phase
          (next_is_some p s.source.number s.source.current s.source.phase h) r.still;
      no_words = r.no_words;
      no_answers = r.no_answers;
    })
step_off p good TimeOut s k h c r = inr (record { alike = r.alike; still = tt; no_words = r.no_words; no_answers = r.no_answers })
step_off p good TakeAnswer s k h c r = absurd (none_there _ r.no_answers h)
step_off p good LoseAnswer s k h c r = absurd (none_there _ r.no_answers h)
step_off p good SinkTakes s k h c r = absurd (none_there _ r.no_words h.0)
step_off p good Silent s k h c r = absurd (quiet_owes _ (ap (λ (x : Sink). x.phase) r.alike) h)
step_off p good (Answered i) s k h c r =
    let o = owed_form p s i h in
    absurd (quiet_owes _ (ap (λ (x : Sink). x.phase) r.alike) (may_owes s.sink.count s.sink.phase o.said o.owed))
step_off p good (FreeSeen i) s k h c r =
    subst (λ x. Alike p s x) (sym (free_sees p good i.bus i.word k h)) (inr r)
step_off p good GiveUp s k h c r = inr (record { alike = r.alike; still = r.still; no_words = r.no_words; no_answers = r.no_answers })

pub step_alike : (p : Contents)
    → IsRead p → (a : Step) (s : State) (k : Sink) → Can p a s → HoldsAt p s → Alike p s k → Alike p (after p a s) (sees p (label a) k)
step_alike p good a s k h c (inl e) = step_on p good a s k h c e
step_alike p good a s k h c (inr r) = step_off p good a s k h c r

pub sink_from_label : (p : Contents) (l : Option Seen) (items : List Seen) (k : Sink)
    → sink_after p items (sees p l k) ≡ sink_after p (with_label l items) k
sink_from_label p None items k = refl
sink_from_label p (Some i) items k = refl

run_alike : (p : Contents) → IsRead p → (acts : List Step) (s : State) (k : Sink) → IsRun p acts s → HoldsAt p s → Alike p s k
    → Alike p (end_of p acts s) (sink_after p (trace acts) k)
run_alike p good [] s k h c m = m
run_alike p good (a ∷ acts) s k h c m =
    subst (λ x. Alike p (end_of p acts (after p a s)) x) (sink_from_label p (label a) (trace acts) k)
    (run_alike p good acts (after p a s) (sees p (label a) k) h.1 (step_holds p good a s h.0 c) (step_alike p good a s k h.0 c m))

-- no word on the way changes what is delivered
pub takes_received : (p : Contents) (w : ℕ) (o : Option Form) (k : Sink) → (takes_form p w o k).received ≡ k.received
takes_received p w None k = refl
takes_received p w (Some (form.Rts n)) k = refl
takes_received p w (Some _) k = refl

take_all_received : (p : Contents) (ws : List ℕ) (k : Sink) → (take_all p ws k).received ≡ k.received
take_all_received p [] k = refl
take_all_received p (w ∷ ws) k = take_all_received p ws (takes_word p w k) ∙ takes_received p w (form_of p.codes bus.A w) k

-- what is delivered is what the trace's sink has
pub delivered_from_trace : (p : Contents) → IsRead p → (first : ℕ) → first ≤ 255 → (acts : List Step) → IsRun p acts (start p first)
    → delivered p first acts ≡ (sink_after p (trace acts) sink_at_first).received.files
delivered_from_trace p good first f acts h =
    ⊎_elim
    (λ e.
    sym (ap (λ (x : Received). x.files) (take_all_received p (end_of p acts (start p first)).to_sink (end_of p acts (start p first)).sink))
    ∙ ap (λ (x : Sink). x.received.files) e)
    (λ r. ap (λ (x : Sink). x.received.files) r.alike)
    (run_alike p good acts (start p first) sink_at_first h (start_holds p first f) (inl refl))

pub same_delivered : (p : Contents) (f g : ℕ) (xs ys : List Step) → IsRead p → f ≤ 255 → g ≤ 255 → IsRun p xs (start p f)
    → IsRun p ys (start p g) → trace xs ≡ trace ys → delivered p f xs ≡ delivered p g ys
same_delivered p f g xs ys good lf lg h k e =
    delivered_from_trace p good f lf xs h ∙ ap (λ t. (sink_after p t sink_at_first).received.files) e
    ∙ sym (delivered_from_trace p good g lg ys k)
