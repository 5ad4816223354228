-- A whole block in a run's trace is that of the link data unit that is current.
use Rattle.std.proofs.Common.{◌≡◌, ℕ, zero, suc, ◌+◌, List, [], ◌∷◌, ◌++◌, length, take, Option, Some, None, slice_get, refl, sym, ap, ◌∙◌, subst, inl, inr, arith, append-nil}
use Rattle.a429_word.specs.declared.bus.Bus.{Bus}
use Rattle.a429_word.specs.declared.bus.Bus.TheVariants as bus
use Rattle.a429_profile.specs.Profile.{Contents}
use Rattle.a429_ldu.specs.declared.forms.Form.{Form}
use Rattle.a429_ldu.specs.declared.forms.Form.TheVariants as form
use Rattle.a429_ldu.specs.Form.{form_of}
use Rattle.a429_ldu.specs.Ldu.{LduValue, IsLdu, count_of, ldu_of}
use Rattle.a429_link.specs.declared.number.UnitNumber.{UnitNumber}
use Rattle.a429_link.specs.declared.seen.Seen.{Seen}
use Rattle.a429_link.specs.declared.state.SourceState.{SourceState}
use Rattle.a429_link.specs.declared.state.SourceState.TheVariants.{Awaiting, Idle, Sending, Waiting}
use Rattle.a429_link.specs.declared.step.Step.{Step}
use Rattle.a429_link.specs.declared.step.Step.TheVariants.{Answered, FreeSeen, GiveUp, Sent}
use Rattle.a429_link.specs.WholeBlock.{EndsForm, EndsWhole, EndsWholeAt}
use Rattle.a429_link.specs.Observer.{Observer, at_first, observed}
use Rattle.a429_link.specs.Observer.{sees as observes}
use Rattle.a429_link.specs.Run.{BeginsARun, IsRun, IsSubsequenceOf, trace, with_label}
use Rattle.a429_link.specs.Sink.{Block, InBlock, Sink, SinkPhase}
use Rattle.a429_link.specs.State.{State, start}
use Rattle.a429_link.specs.Step.{Can, after, label}
use Rattle.a429_link.proofs.Message.{AllSay, Eot, IsRead, Message, Rts, block_messages, end_message, front, message_in, message_of, next_message, takes_as, takes_message, taken_messages}
use Rattle.a429_link.proofs.MessageSubsequence.{IsFrontWord, get_front, same_parts, sub_start}
use Rattle.a429_link.proofs.Subsequence.{sub_take}
use Rattle.a429_link.proofs.StateConfigs.{Config, block_taken, front_words, idle, sending, taken_fits}
use Rattle.a429_link.proofs.StateHolds.{Current, HoldsAt, each_get, owed_form, sends, start_holds, step_holds}
use Rattle.a429_link.proofs.SinkFromTrace.{Alike, IsStill, sees, step_alike, take_all}
use Rattle.a429_link.proofs.RunTraces.{see_item}
use Rattle.a429_link.proofs.ObserverRefuses.{seeing, sees_same}
use Rattle.a429_link.specs.Trace.{sink_at_first, sink_sees}

-- a message ends a whole block
abbrev EndsMessage : Bus → Option Message → SinkPhase → ℕ → LduValue → Type 0
EndsMessage bus.A (Some (Eot flags check)) (InBlock b) count u = (length b.words + 2 ≡ count) × (ldu_of b.gfi flags check b.words ≡ u)
EndsMessage _ _ _ count u = ⊥

ends_said : (b : Bus) (w : ℕ) (o : Option Form) (kp : SinkPhase) (count : ℕ) (u : LduValue)
    → EndsForm b o kp count u → EndsMessage b (message_in w o) kp count u
ends_said bus.A w (Some (form.Eot flags check)) (InBlock b) count u h = h
ends_said _ w _ _ count u h = absurd h

-- the words on their way are taken, one by one
pub all_taken_fit : (p : Contents) (number : UnitNumber) (cur : Option LduValue) (sp : SourceState) (ws : List ℕ) (k : Sink)
    (xs ys : List Message)
    → AllSay p bus.A ws xs → Config number cur sp k.count k.phase xs ys
    → Config number cur sp (take_all p ws k).count (take_all p ws k).phase [] ys
all_taken_fit p number cur sp [] k [] ys e c = c
all_taken_fit p number cur sp [] k (x ∷ xs) ys e c = absurd e
all_taken_fit p number cur sp (w ∷ ws) k [] ys e c = absurd e
all_taken_fit p number cur sp (w ∷ ws) k (x ∷ xs) ys e c =
    subst (λ q. Config number cur sp (take_all p ws q).count (take_all p ws q).phase [] ys) (sym (takes_as p w x k e.0))
    (all_taken_fit p number cur sp ws (takes_message p x k) xs ys e.1
    (taken_fits p k.last k.received number cur sp k.count k.phase x xs ys c))

-- the end word is the last of its block
is_end : (number : UnitNumber) (u : LduValue) (k : ℕ) (flags check : ℕ)
    → slice_get (block_messages u number) k ≡ Some (Eot flags check) → Eot flags check ≡ end_message u
is_end number u k flags check e =
    elim (get_front k (Eot flags check) (end_message u) (front u number) e) [
      | inl (l, g) ↦ absurd (each_get IsFrontWord k (front u number) (Eot flags check) (front_words u number) g)
      | inr (l, g) ↦ g
    ]

-- a block with as many data words as the link data unit holds that unit's words
is_current : (number : UnitNumber) (u : LduValue) (k : ℕ) (b : Block) (flags check : ℕ)
    → slice_get (block_messages u number) k ≡ Some (Eot flags check) → length b.words + 2 ≡ count_of u
    → IsSubsequenceOf (taken_messages b ++ []) (take k (front u number)) → u ≡ ldu_of b.gfi flags check b.words
is_current number u k b flags check e n h =
    let h' = subst (λ x. IsSubsequenceOf x (take k (front u number))) (append-nil (taken_messages b)) h in
    let all =
    sub_start b.gfi b.file b.ldu u.gfi number.file number.ldu b.words u.words (sub_take k (taken_messages b) (front u number) h') in
    let len : length b.words ≡ length u.words = omega arith in
    let words : b.words ≡ u.words = same_parts b.words u.words len all.2 in
    let end = is_end number u k flags check e in
    let flags_same : flags ≡ u.flags = cc end in
    let check_same : check ≡ u.check = cc end in
    let gfi : b.gfi ≡ u.gfi = all.3 in
    ap (λ g. ldu_of g u.flags u.check u.words) (sym gfi) ∙ ap (λ f. ldu_of b.gfi f u.check u.words) (sym flags_same)
    ∙ ap (λ c. ldu_of b.gfi flags c u.words) (sym check_same) ∙ ap (λ ws. ldu_of b.gfi flags check ws) (sym words)

sending_whole : (p : Contents) (number : UnitNumber) (u : LduValue) (k count : ℕ) (w : Message) (kp : SinkPhase)
    → slice_get (block_messages u number) k ≡ Some w → count ≡ count_of u → IsSubsequenceOf (block_taken kp ++ []) (take k (front u number))
    → IsLdu p u → (v : LduValue) → EndsMessage bus.A (Some w) kp count v → IsLdu p v
sending_whole p number u k count (Eot flags check) (InBlock b) e c h is v ends =
    subst (IsLdu p) (is_current number u k b flags check e (ends.0 ∙ c) h ∙ ends.1) is
sending_whole p number u k count _ _ e c h is v ends = absurd ends

-- what the source sends where all words before it are taken
sent_whole : (p : Contents) (number : UnitNumber) (cur : Option LduValue) (sp : SourceState) (count : ℕ) (kp : SinkPhase)
    (xs ys : List Message) (w : Message)
    → next_message number cur sp ≡ Some w → xs ≡ [] → Current p cur number.ldu → Config number cur sp count kp xs ys → (v : LduValue)
    → EndsMessage bus.A (Some w) kp count v → IsLdu p v
sent_whole p number None sp count kp xs ys w e n is (idle f s) v ends = absurd (cc e)
sent_whole p number (Some u) sp count kp xs ys w e n is (idle f s) v ends =
    let same : w ≡ Rts (count_of u) = cc in absurd (subst (λ x. EndsMessage bus.A (Some x) kp count v) same ends)
sent_whole p number cur sp count kp xs ys w e n is (sending {u} {k} r g c le h) v ends =
    sending_whole p number u k count w kp e c (subst (λ x. IsSubsequenceOf (block_taken kp ++ x) (take k (front u number))) n h) is.2 v ends
sent_whole p number cur sp count kp xs ys w e n is _ v ends = absurd (cc e)

-- where the source is in no block it sends a request
still_whole : (number : UnitNumber) (cur : Option LduValue) (sp : SourceState) (w : Message) (kp : SinkPhase) (count : ℕ) (v : LduValue)
    → next_message number cur sp ≡ Some w → IsStill sp → EndsMessage bus.A (Some w) kp count v → ⊥
still_whole number (Some u) Idle w kp count v e i ends =
    let same : w ≡ Rts (count_of u) = cc in subst (λ x. EndsMessage bus.A (Some x) kp count v) same ends
still_whole number (Some u) (Sending k) w kp count v e i ends = absurd i
still_whole number (Some u) Awaiting w kp count v e i ends = absurd (cc e)
still_whole number (Some u) Waiting w kp count v e i ends = absurd (cc e)
still_whole number None sp w kp count v e i ends = absurd (cc e)

-- a recorded word that ends a whole block ends a link data unit
abbrev Whole : Contents → Sink → Seen → Type 0
Whole p k i = (v : LduValue) → EndsForm i.bus (form_of p.codes i.bus i.word) k.phase k.count v → IsLdu p v

abbrev WholeLabel : Contents → Sink → Option Seen → Type 0
WholeLabel p k None = Unit {0}
WholeLabel p k (Some i) = Whole p k i

abbrev AllWhole : Contents → List Seen → Sink → Type 0
AllWhole p [] k = Unit {0}
AllWhole p (i ∷ items) k = Whole p k i × AllWhole p items (sees p (Some i) k)

-- a word that says this on its bus
whole_on : (p : Contents) (k : Sink) (i : Seen) (b : Bus) (x : Message)
    → i.bus ≡ b → message_of p b i.word ≡ Some x → ((v : LduValue) → EndsMessage b (Some x) k.phase k.count v → IsLdu p v) → Whole p k i
whole_on p k i b x e h is = λ v ends.
    is v
    (subst (λ o. EndsMessage b o k.phase k.count v) h (subst (λ (q : Bus). EndsMessage q (message_of p q i.word) k.phase k.count v) e
    (ends_said i.bus i.word (form_of p.codes i.bus i.word) k.phase k.count v ends)))

step_whole : (p : Contents)
    → IsRead p → (a : Step) (s : State) (k : Sink) → Can p a s → HoldsAt p s → Alike p s k → WholeLabel p k (label a)
step_whole p good (Sent i) s k c f (inl m) =
    let says = sends p good s.source i.word f.file f.current c.1 in
    let fits =
    subst (λ (q : Sink). Config s.source.number s.source.current s.source.phase q.count q.phase [] f.ys) m
    (all_taken_fit p s.source.number s.source.current s.source.phase s.to_sink s.sink f.xs f.ys f.sink_words f.fits) in
    whole_on p k i bus.A says.said c.0 says.says
    (sent_whole p s.source.number s.source.current s.source.phase k.count k.phase [] f.ys says.said says.next refl f.current fits)
step_whole p good (Sent i) s k c f (inr r) =
    let says = sends p good s.source i.word f.file f.current c.1 in
    whole_on p k i bus.A says.said c.0 says.says
    (λ v ends. absurd (still_whole s.source.number s.source.current s.source.phase says.said k.phase k.count v says.next r.still ends))
step_whole p good (Answered i) s k c f m =
    let r = owed_form p s i c in
    whole_on p k i bus.B r.said c.0 r.is (λ v ends. absurd ends)
step_whole p good (FreeSeen i) s k c f m =
    λ v ends. absurd (none i.bus k.phase k.count v (subst (λ o. EndsForm i.bus o k.phase k.count v) (good.free i.bus i.word c) ends))
  where
    none : (b : Bus) (kp : SinkPhase) (count : ℕ) (v : LduValue) → EndsForm b None kp count v → ⊥
    none bus.A kp count v h = h
    none bus.B kp count v h = h
step_whole p good GiveUp s k c f m = tt
step_whole p good _ s k c f m = tt

push_label : (p : Contents) (l : Option Seen) (items : List Seen) (k : Sink)
    → WholeLabel p k l → AllWhole p items (sees p l k) → AllWhole p (with_label l items) k
push_label p None items k a h = h
push_label p (Some i) items k a h = (a, h)

run_whole : (p : Contents)
    → IsRead p → (steps : List Step) (s : State) (k : Sink) → IsRun p steps s → HoldsAt p s → Alike p s k → AllWhole p (trace steps) k
run_whole p good [] s k h f m = tt
run_whole p good (a ∷ steps) s k h f m =
    push_label p (label a) (trace steps) k (step_whole p good a s k h.0 f m)
    (run_whole p good steps (after p a s) (sees p (label a) k) h.1 (step_holds p good a s h.0 f) (step_alike p good a s k h.0 f m))

-- the observer has the sink's phase and count
whole_at : (p : Contents) (items more : List Seen) (k : Sink) (seen : List Message) (i : ℕ) (o : Observer) (u : LduValue)
    → o ≡ seeing k seen → AllWhole p (take (suc i) items ++ more) k → EndsWhole p (observed p (take i items) o) (slice_get items i) u
    → IsLdu p u
whole_at p [] more k seen zero o u e h ends = absurd ends
whole_at p [] more k seen (suc i) o u e h ends = absurd ends
whole_at p (x ∷ items) more k seen zero o u e h ends = h.0 u (subst (λ (q : Observer). EndsWhole p q (Some x) u) e ends)
whole_at p (x ∷ items) more k seen (suc i) o u e h ends =
    whole_at p items more (sink_sees p x.bus x.word k) (see_item p x seen) i (observes p x o) u
    (ap (observes p x) e ∙ sees_same p x k seen) h.1 ends

-- a whole block that a run's trace ends is a link data unit
pub whole_is_ldu : (p : Contents)
    → IsRead p → (items : List Seen) (i : ℕ) (u : LduValue) → BeginsARun p (take (suc i) items) → EndsWholeAt p items i u → IsLdu p u
whole_is_ldu p good items i u r ends =
    whole_at p items r.more sink_at_first [] i at_first u refl
    (subst (λ t. AllWhole p t sink_at_first) r.records
    (run_whole p good r.steps (start p r.first) sink_at_first r.run (start_holds p r.first r.byte) (inl refl))) ends
