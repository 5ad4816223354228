-- The words on the way say what the phases want: the invariant of a run's states.
use Rattle.std.proofs.Common.{◌≡◌, ℕ, zero, suc, ◌≤◌, Bool, true, false, cond, List, [], ◌∷◌, ◌++◌, map, Option, Some, None, slice_get, refl, sym, ap, ◌∙◌, subst, arith}
use Rattle.a429_word.specs.declared.bus.Bus.TheVariants as bus
use Rattle.a429_ldu.specs.Form.{form_of}
use Rattle.a429_ldu.specs.Ldu.{IsLdu, LduValue, count_of, is_final}
use Rattle.a429_link.proofs.Message.{Ack, AllParts, AllSay, Cts, Eot, InRange, IsFit, IsRead, MaySay, Nak, Part, Replies, Rts, Message, answers_as, answers_message, block_messages, with_answer_as, with_answer_message, next_is_some, next_message, next_says, none_say, replies, message_of, say_none, say_push, takes_as}
use Rattle.a429_link.specs.Sink.{Owes, Sink, SinkPhase, takes_first}
use Rattle.a429_link.specs.Source.{Source, Waits, with_answer_first, next_word_of}
use Rattle.a429_link.specs.Step.{Can, after}
use Rattle.a429_link.specs.State.{rest, IsNonEmpty, start, State}
use Rattle.a429_link.specs.declared.state.SourceState.{SourceState}
use Rattle.a429_link.specs.declared.state.SourceState.TheVariants.{Awaiting, Idle, Sending, Waiting}
use Rattle.a429_link.specs.declared.seen.Seen.{Seen}
use Rattle.a429_link.specs.declared.step.Step.{Step}
use Rattle.a429_link.specs.declared.step.Step.TheVariants.{Answered, FreeSeen, GiveUp, Load, LoseAnswer, Sent, SentLost, Silent, SinkTakes, TakeAnswer, TimeOut}
use Rattle.a429_profile.specs.Profile.{Contents}
use Rattle.a429_link.proofs.MessageSubsequence.{Each, each_push}
use Rattle.a429_link.proofs.StateConfigs.{Config, idle, cleared, refused, acked, load_fits, give_up_fits, sent_fits, lost_fits, late_fits, unheard_fits, silent_fits, answer_fits, taken_fits, heard_fits, phase_answered, acks_count, may_answer, owes_alone, source_at}
use Rattle.a429_link.specs.declared.number.UnitNumber.{UnitNumber}
use Rattle.a429_link.proofs.NumberFacts.{next_byte}
use Rattle.a429_link.specs.Run.{IsRun, end_of}

-- the current link data unit is one of the profile, under a number that an answer can carry
abbrev pub Current : Contents → Option LduValue → ℕ → Type 0
Current p None ldu = Unit {0}
Current p (Some u) ldu = IsFit p u × (ldu ≤ 255) × IsLdu p u

pub record Holds (p : Contents) (source : Source) (sink : Sink) (ws vs : List ℕ) : Type 0 where
  pub xs : List Message
  pub ys : List Message
  pub sink_words : AllSay p bus.A ws xs
  pub source_words : AllSay p bus.B vs ys
  pub file : source.number.file ≤ 255
  pub current : Current p source.current source.number.ldu
  pub fits : Config source.number source.current source.phase sink.count sink.phase xs ys

abbrev pub HoldsAt : Contents → State → Type 0
HoldsAt p s = Holds p s.source s.sink s.to_sink s.to_source

-- a block's words are in range
parts_forms : (p : Contents) (ws : List ℕ) → AllParts p ws → Each (InRange p bus.A) (map Part ws)
parts_forms p [] h = tt
parts_forms p (w ∷ ws) h = (h.0, parts_forms p ws h.1)

block_forms : (p : Contents) (u : LduValue) (number : UnitNumber)
    → IsFit p u → number.file ≤ 255 → number.ldu ≤ 255 → Each (InRange p bus.A) (block_messages u number)
block_forms p u number h f l =
    ((h.gfi, f, l), each_push (InRange p bus.A) (map Part u.words) (Eot u.flags u.check) (parts_forms p u.words h.parts) (h.flags, h.check))

pub each_get : (P : Message → Type 0) (k : ℕ) (xs : List Message) (x : Message) → Each P xs → slice_get xs k ≡ Some x → P x
each_get P k [] x h e = absurd (cc e)
each_get P zero (y ∷ ys) x h e = let same : y ≡ x = cc in subst P same h.0
each_get P (suc k) (y ∷ ys) x h e = each_get P k ys x h.1 e

pub next_in_range : (p : Contents) (number : UnitNumber) (cur : Option LduValue) (sp : SourceState) (x : Message)
    → number.file ≤ 255 → Current p cur number.ldu → next_message number cur sp ≡ Some x → InRange p bus.A x
next_in_range p number None sp x f c e = absurd (cc e)
next_in_range p number (Some u) Idle x f c e =
    let same : Rts (count_of u) ≡ x = cc in
    let room = c.0.room in let some = c.0.some in
    let range : InRange p bus.A (Rts (count_of u)) = (omega arith, omega arith) in
    subst (InRange p bus.A) same range
next_in_range p number (Some u) (Sending k) x f c e =
    each_get (InRange p bus.A) k (block_messages u number) x (block_forms p u number c.0 f c.1) e
next_in_range p number (Some u) Awaiting x f c e = absurd (cc e)
next_in_range p number (Some u) Waiting x f c e = absurd (cc e)

-- the word that the source sends
pub record Sends (p : Contents) (s : Source) (w : ℕ) : Type 0 where
  pub said : Message
  pub next : next_message s.number s.current s.phase ≡ Some said
  pub says : message_of p bus.A w ≡ Some said

pub sends : (p : Contents)
    → IsRead p → (s : Source) (w : ℕ) → s.number.file ≤ 255 → Current p s.current s.number.ldu → next_word_of p s ≡ Some w → Sends p s w
sends p good s w f c e =
    let h = next_says p s.number s.current s.phase w e in
    let range = next_in_range p s.number s.current s.phase h.said f c h.is in
    record { said = h.said; next = h.is; says = ap (message_of p bus.A) h.word ∙ good.reads bus.A h.said range }

-- The steps.
sent_holds : (p : Contents) → IsRead p → (s : State) (i : Seen) → Can p (Sent i) s → HoldsAt p s → HoldsAt p (after p (Sent i) s)
sent_holds p good s i m h =
    let says = sends p good s.source i.word h.file h.current m.1 in
    record {
      xs = h.xs ++ says.said ∷ [];
      ys = h.ys;
      sink_words = say_push p bus.A s.to_sink h.xs i.word says.said h.sink_words says.says;
      source_words = h.source_words;
      file = h.file;
      current = h.current;
      fits = sent_fits _ _ _ _ _ _ _ says.said says.next h.fits;
    }

takes_holds : (p : Contents) (source : Source) (k : Sink) (ws vs : List ℕ) (xs ys : List Message)
    → IsNonEmpty ws → AllSay p bus.A ws xs → AllSay p bus.B vs ys → source.number.file ≤ 255 → Current p source.current source.number.ldu
    → Config source.number source.current source.phase k.count k.phase xs ys → Holds p source (takes_first p ws k) (rest ws) vs
takes_holds p source k [] vs xs ys n e d f c h = absurd n
takes_holds p source k (w ∷ ws) vs [] ys n e d f c h = absurd e
takes_holds p source k (w ∷ ws) vs (x ∷ xs) ys n e d f c h =
    subst (λ q. Holds p source q ws vs) (sym (takes_as p w x k e.0))
    (record {
      xs = xs;
      ys = ys;
      sink_words = e.1;
      source_words = d;
      file = f;
      current = c;
      fits = taken_fits p k.last k.received _ _ _ _ _ x xs ys h;
    })

unheard_holds : (p : Contents) (source : Source) (k : Sink) (ws vs : List ℕ) (xs ys : List Message)
    → IsNonEmpty vs → AllSay p bus.A ws xs → AllSay p bus.B vs ys → source.number.file ≤ 255 → Current p source.current source.number.ldu
    → Config source.number source.current source.phase k.count k.phase xs ys → Holds p source k ws (rest vs)
unheard_holds p source k ws [] xs ys n e d f c h = absurd n
unheard_holds p source k ws (v ∷ vs) xs [] n e d f c h = absurd d
unheard_holds p source k ws (v ∷ vs) xs (y ∷ ys) n e d f c h =
    record {
      xs = xs;
      ys = ys;
      sink_words = e;
      source_words = d.1;
      file = f;
      current = c;
      fits = unheard_fits _ _ _ _ _ _ (y ∷ ys) tt h;
    }

-- the source's numbers after an answer
abbrev Numbers : Contents → Source → Type 0
Numbers p s = (s.number.file ≤ 255) × Current p s.current s.number.ldu

either : (p : Contents) (t : Bool) (a b : Source) → Numbers p a → Numbers p b → Numbers p (cond t a b)
either p true a b h k = h
either p false a b h k = k

hear_numbers : (p : Contents) (g : ℕ) (number : UnitNumber) (cur : Option LduValue) (sp : SourceState) (count : ℕ) (kp : SinkPhase)
    (xs : List Message) (y : Message) (ys : List Message)
    → Config number cur sp count kp xs (y ∷ ys) → number.file ≤ 255 → Current p cur number.ldu
    → Numbers p (with_answer_message p cur sp y (source_at g number cur sp))
hear_numbers p g number cur sp count kp xs y ys (cleared {u} {n} r q) f c = either p _ _ _ (f, c) (f, c)
hear_numbers p g number cur sp count kp xs y ys (refused r) f c = (f, c)
hear_numbers p g number cur sp count kp xs y ys (acked {u} r ef el) f c =
    either p _ _ _ (next_byte p.codes number (is_final p.codes u.flags) f, tt) (f, c)

with_answer_holds : (p : Contents) (source : Source) (k : Sink) (ws vs : List ℕ) (xs ys : List Message)
    → IsNonEmpty vs → AllSay p bus.A ws xs → AllSay p bus.B vs ys → source.number.file ≤ 255 → Current p source.current source.number.ldu
    → Config source.number source.current source.phase k.count k.phase xs ys → Holds p (with_answer_first p.codes vs source) k ws (rest vs)
with_answer_holds p source k ws [] xs ys n e d f c h = absurd n
with_answer_holds p source k ws (v ∷ vs) xs [] n e d f c h = absurd d
with_answer_holds p source k ws (v ∷ vs) xs (y ∷ ys) n e d f c h =
    let numbers = hear_numbers p source.give_ups source.number source.current source.phase k.count k.phase xs y ys h f c in
    subst (λ q. Holds p q k ws vs) (sym (with_answer_as p v y source d.0))
    (record {
      xs = xs;
      ys = ys;
      sink_words = e;
      source_words = d.1;
      file = numbers.0;
      current = numbers.1;
      fits = heard_fits p source.give_ups _ _ _ _ _ y xs ys h;
    })

answered_phase : (p : Contents) (x : Message) (k : Sink) (count : ℕ) (kp : SinkPhase)
    → MaySay count kp x → (answers_message p x k).phase ≡ phase_answered x
answered_phase p (Cts n) k count kp m = refl
answered_phase p (Ack a b) k count kp m = refl
answered_phase p (Nak b) k count kp m = refl
answered_phase p x k count kp m = absurd (may_answer count kp x m)

pub answered_count : (p : Contents) (x : Message) (k : Sink) → (answers_message p x k).count ≡ k.count
answered_count p (Ack a b) k = acks_count p.codes k.phase k
answered_count p _ k = refl

-- the answer that the sink gives
pub owed_form : (p : Contents) (s : State) (i : Seen) → Can p (Answered i) s → Replies s.sink.count s.sink.phase (message_of p bus.B i.word)
owed_form p s i m = replies s.sink.count s.sink.phase i.word (form_of p.codes bus.B i.word) m.1

answered_holds : (p : Contents) (s : State) (i : Seen) → Can p (Answered i) s → HoldsAt p s → HoldsAt p (after p (Answered i) s)
answered_holds p s i m h =
    let r = owed_form p s i m in
    let fits = answer_fits _ _ _ _ _ _ _ r.said r.owed h.fits in
    let k' = answers_message p r.said s.sink in
    subst (λ q. Holds p s.source q s.to_sink (s.to_source ++ i.word ∷ [])) (sym (answers_as p i.word r.said s.sink r.is))
    (record {
      xs = h.xs;
      ys = h.ys ++ r.said ∷ [];
      sink_words = h.sink_words;
      source_words = say_push p bus.B s.to_source h.ys i.word r.said h.source_words r.is;
      file = h.file;
      current = h.current;
      fits =
          subst (λ n. Config s.source.number s.source.current s.source.phase n k'.phase h.xs (h.ys ++ r.said ∷ []))
          (sym (answered_count p r.said s.sink))
          (subst (λ q. Config s.source.number s.source.current s.source.phase s.sink.count q h.xs (h.ys ++ r.said ∷ []))
          (sym (answered_phase p r.said s.sink s.sink.count s.sink.phase r.owed)) fits);
    })

-- the words stay, the phases go on
on_way : (p : Contents) (s : State) (source : Source) (k : Sink)
    → (h : HoldsAt p s) → source.number.file ≤ 255 → Current p source.current source.number.ldu
    → Config source.number source.current source.phase k.count k.phase h.xs h.ys → Holds p source k s.to_sink s.to_source
on_way p s source k h f c g =
    record { xs = h.xs; ys = h.ys; sink_words = h.sink_words; source_words = h.source_words; file = f; current = c; fits = g }

pub step_holds : (p : Contents) → IsRead p → (a : Step) (s : State) → Can p a s → HoldsAt p s → HoldsAt p (after p a s)
step_holds p good (Load u) s c h =
    let first = good.first in
    let below = c.2 in
    let room : s.source.number.ldu ≤ 255 = omega arith in
    let fit = good.fit u c.3 in
    on_way p s _ s.sink h h.file (fit, room, c.3) (load_fits _ _ _ _ _ _ _ u c.0 fit.room h.fits)
step_holds p good (Sent i) s c h = sent_holds p good s i c h
step_holds p good SentLost s c h =
    on_way p s _ s.sink h h.file h.current
    (lost_fits _ _ _ _ _ _ _ (next_is_some p s.source.number s.source.current s.source.phase c) h.fits)
step_holds p good TimeOut s c h =
    on_way p s _ s.sink h h.file h.current
    (late_fits _ _ _ _ _ _ _ c.0 c.3 (say_none p bus.A s.to_sink h.xs h.sink_words c.1)
    (say_none p bus.B s.to_source h.ys h.source_words c.2) h.fits)
step_holds p good TakeAnswer s c h =
    with_answer_holds p s.source s.sink s.to_sink s.to_source h.xs h.ys c h.sink_words h.source_words h.file h.current h.fits
step_holds p good LoseAnswer s c h =
    unheard_holds p s.source s.sink s.to_sink s.to_source h.xs h.ys c h.sink_words h.source_words h.file h.current h.fits
step_holds p good SinkTakes s c h =
    takes_holds p s.source s.sink s.to_sink s.to_source h.xs h.ys c.0 h.sink_words h.source_words h.file h.current h.fits
step_holds p good Silent s c h = on_way p s s.source _ h h.file h.current (silent_fits _ _ _ _ _ _ _ c h.fits)
step_holds p good (Answered i) s c h = answered_holds p s i c h
step_holds p good (FreeSeen i) s c h = h
step_holds p good GiveUp s c h = on_way p s _ s.sink h (omega arith) tt (give_up_fits _ _ _ _ _ _ _ _ c.0 h.fits)

pub holds_after : (p : Contents) → IsRead p → (steps : List Step) (s : State) → IsRun p steps s → HoldsAt p s → HoldsAt p (end_of p steps s)
holds_after p good [] s h f = f
holds_after p good (a ∷ steps) s h f = holds_after p good steps (after p a s) h.1 (step_holds p good a s h.0 f)

pub start_holds : (p : Contents) (first : ℕ) → first ≤ 255 → HoldsAt p (start p first)
start_holds p first f =
    record { xs = []; ys = []; sink_words = tt; source_words = tt; file = f; current = tt; fits = idle tt tt }

-- where the sink owes an answer nothing is on the way
pub alone_on_the_way : (p : Contents) (s : State)
    → Owes s.sink.phase → HoldsAt p s → Waits s.source.phase × (s.to_sink ≡ []) × (s.to_source ≡ [])
alone_on_the_way p s o h =
    let alone = owes_alone _ _ _ _ _ _ _ o h.fits in
    (alone.0, none_say p bus.A s.to_sink h.xs h.sink_words alone.1, none_say p bus.B s.to_source h.ys h.source_words alone.2)
