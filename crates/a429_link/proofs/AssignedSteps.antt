-- Where a run stands in an attempt, and the steps by which it records each word that the observer allows there.
use Rattle.std.proofs.Common.{◌≡◌, ℕ, zero, suc, ◌+◌, ◌-◌, ◌%◌, ◌≤◌, ◌<◌, Bool, true, false, cond, eqb, List, [], ◌∷◌, ◌++◌, length, drop, Option, Some, None, is_some, slice_get, IsSome, refl, sym, ap, ◌∙◌, subst, inl, inr, arith, append_assoc, eq-eqb, eqb-true}
use Rattle.std.proofs.lemmas.Bool.{eqb-false}
use Rattle.std.proofs.lemmas.Option.{slice_get_within}
use Rattle.a429_word.specs.declared.bus.Bus.{Bus}
use Rattle.a429_word.specs.declared.bus.Bus.TheVariants as bus
use Rattle.a429_profile.specs.Profile.{Contents, IsProfile}
use Rattle.a429_ldu.specs.declared.forms.Form.{Form}
use Rattle.a429_ldu.specs.declared.forms.Form.TheVariants as form
use Rattle.a429_ldu.specs.Form.{form_of, word_number}
use Rattle.a429_ldu.specs.Ldu.{LduValue, block_of, count_of}
use Rattle.a429_ldu.proofs.FormFacts.{form_of-is, one_word, word_number-is}
use Rattle.a429_link.specs.declared.number.UnitNumber.{UnitNumber}
use Rattle.a429_link.specs.declared.seen.Seen.{Seen}
use Rattle.a429_link.specs.declared.state.SourceState.{SourceState}
use Rattle.a429_link.specs.declared.state.SourceState.TheVariants.{Awaiting, Idle, Sending, Waiting}
use Rattle.a429_link.specs.declared.step.Step.{Step}
use Rattle.a429_link.specs.declared.step.Step.TheVariants.{Answered, GiveUp, Load, LoseAnswer, Sent, SentLost, Silent, SinkTakes, TakeAnswer, TimeOut}
use Rattle.a429_link.specs.Number.{first_number, is_number, number_after}
use Rattle.a429_link.specs.Observer.{HasGrant}
use Rattle.a429_link.specs.Run.{IsRun, IsSubsequenceOf, end_of, trace, with_label}
use Rattle.a429_link.specs.Sink.{end_word, Block, Granted, InBlock, Listens, MayAnswer, MayAnswerForm, Number, Owes, OwesAck, OwesClear, OwesNak, Quiet, Received, Sink, SinkPhase, accepts_owed, answers_form, at_end, at_part, at_start, is_good, takes_form}
use Rattle.a429_link.specs.Source.{Source, acknowledged, after_word, next_word}
use Rattle.a429_link.specs.State.{IsNonEmpty, State}
use Rattle.a429_link.specs.Step.{Can, after, label}
use Rattle.a429_link.specs.Attempt.{Attempt, asks, attempts_from, fresh, goes_on_to, grown}
use Rattle.a429_link.specs.Assignment.{AreAssigned, Assigned, GivesUp, GoOnAssigned, IsNext, IsSound}
use Rattle.a429_link.proofs.CleanRuns.{end_append, run_append, trace_append}
use Rattle.a429_link.proofs.Message.{Ack, Cts, Eot, IsRead, Message, end_message, front, with_answer_as, message_in, message_of}
use Rattle.a429_link.proofs.NumberFacts.{number_from, number_same}
use Rattle.a429_link.proofs.SourceBlock.{block_length}
use Rattle.a429_link.proofs.StateConfigs.{InGrant, acks_count, front_words, length-front, sink_at, source_at}
use Rattle.a429_link.proofs.NumberStages.{own_ack}
use Rattle.a429_link.proofs.StateHolds.{HoldsAt, each_get, sends, holds_after}
use Rattle.a429_link.proofs.MessageSubsequence.{IsFrontWord, get_front}
use Rattle.a429_link.proofs.Subsequence.{sub_rest}
use Rattle.a429_link.specs.Trace.{sink_sees}

-- ---- ways from state to state

-- steps that lead from one state to the other and record these words
pub record Way (p : Contents) (items : List Seen) (s t : State) : Type 0 where
  pub steps : List Step
  pub run : IsRun p steps s
  pub ends : end_of p steps s ≡ t
  pub records : trace steps ≡ items

pub way_join : (p : Contents) (xs ys : List Seen) (s t r : State) → Way p xs s t → Way p ys t r → Way p (xs ++ ys) s r
way_join p xs ys s t r h k = record {
  steps = h.steps ++ k.steps;
  run = run_append p h.steps k.steps s h.run (subst (λ q. IsRun p k.steps q) (sym h.ends) k.run);
  ends = end_append p h.steps k.steps s ∙ ap (end_of p k.steps) h.ends ∙ k.ends;
  records = trace_append h.steps k.steps ∙ ap (λ l. l ++ trace k.steps) h.records ∙ ap (λ l. xs ++ l) k.records;
}

-- a step that records nothing
quiet_step : (p : Contents) (a : Step) (s t : State) → label a ≡ None → Can p a s → after p a s ≡ t → Way p [] s t
quiet_step p a s t l c e = record { steps = a ∷ []; run = (c, tt); ends = e; records = ap (λ o. with_label o []) l }

pub way_holds : (p : Contents) → IsRead p → (items : List Seen) (s t : State) → Way p items s t → HoldsAt p s → HoldsAt p t
way_holds p good items s t w h = subst (HoldsAt p) w.ends (holds_after p good w.steps s w.run h)

-- nothing is on its way to the sink
abbrev pub at : Source → Sink → List ℕ → State
at q k vs = record { source = q; sink = k; to_sink = []; to_source = vs }

-- the source of an attempt with this assignment
abbrev pub source_of : Assigned → SourceState → Source
source_of t sp = source_at t.give_ups t.number (Some t.unit) sp

-- ---- words that are lost

some_at : {X : Type 0} (xs : List X) (k : ℕ) → k < length xs → IsSome (slice_get xs k)
some_at [] k h = absurd (omega arith)
some_at (x ∷ xs) zero h = refl
some_at (x ∷ xs) (suc k) h = some_at xs k (omega arith)

has_word : (p : Contents) (t : Assigned) (k : ℕ) → k < count_of t.unit → IsSome (next_word p.codes t.number (Some t.unit) (Sending k))
has_word p t k h = some_at (block_of p.codes t.unit t.number.file t.number.ldu) k (omega (arith, block_length p.codes t.unit t.number))

lose_one : (p : Contents) (t : Assigned) (k : ℕ) (sink : Sink) (sp : SourceState) → k < count_of t.unit
    → after_word (Some t.unit) (Sending k) ≡ sp → Way p [] (at (source_of t (Sending k)) sink []) (at (source_of t sp) sink [])
lose_one p t k sink sp h e = quiet_step p SentLost _ _ refl (has_word p t k h) (ap (λ q. at (source_of t q) sink []) e)

not_last : (k n : ℕ) → suc k < n → (b : Bool) → eqb (suc k) n ≡ b → cond b Waiting (Sending (suc k)) ≡ Sending (suc k)
not_last k n h true e = absurd (omega (arith, eqb-true (suc k) n e))
not_last k n h false e = refl

is_last : (k n : ℕ) → suc k ≡ n → cond (eqb (suc k) n) Waiting (Sending (suc k)) ≡ Waiting
is_last k n h = ap (λ b. cond b Waiting (Sending (suc k))) (eq-eqb (suc k) n h)

lose_to : (p : Contents) (t : Assigned) (d k m : ℕ) (sink : Sink)
    → m ≡ k + d → m < count_of t.unit → Way p [] (at (source_of t (Sending k)) sink []) (at (source_of t (Sending m)) sink [])
lose_to p t zero k m sink e h =
    let same : k ≡ m = omega arith in
    record { steps = []; run = tt; ends = ap (λ n. at (source_of t (Sending n)) sink []) same; records = refl }
lose_to p t (suc d) k m sink e h =
    way_join p [] [] _ _ _
    (lose_one p t k sink (Sending (suc k)) (omega arith) (not_last k (count_of t.unit) (omega arith) (eqb (suc k) (count_of t.unit)) refl))
    (lose_to p t d (suc k) m sink (omega arith) h)

lose_rest : (p : Contents) (t : Assigned) (k : ℕ) (sink : Sink)
    → k < count_of t.unit → Way p [] (at (source_of t (Sending k)) sink []) (at (source_of t Waiting) sink [])
lose_rest p t k sink h =
    let m : ℕ = length t.unit.words + 1 in
    let last : suc m ≡ count_of t.unit = omega arith in
    way_join p [] [] _ _ _ (lose_to p t (m - k) k m sink (omega arith) (omega arith))
    (lose_one p t m sink Waiting (omega arith) (is_last m (count_of t.unit) last))

-- ---- where a run stands in an attempt

-- the words still to come are after place k of the block
abbrev Pointer : Contents → Assigned → ℕ → List ℕ → Type 0
Pointer p t k words = (ys : List ℕ) → IsSubsequenceOf (words ++ ys) (block_of p.codes t.unit t.number.file t.number.ldu)
    → IsSubsequenceOf ys (drop k (block_of p.codes t.unit t.number.file t.number.ldu))

-- the sink owes an answer to a block
abbrev OwesBlock : SinkPhase → Type 0
OwesBlock (OwesAck b f) = Unit {0}
OwesBlock OwesNak = Unit {0}
OwesBlock _ = ⊥

pub data Stand (p : Contents) (t : Assigned) (a : Attempt) : SourceState → List ℕ → SinkPhase → Type 0 where
  is_asked : a.words ≡ [] → a.acked ≡ None → Stand p t a Awaiting [] OwesClear
  is_cleared : {v : ℕ}
      → message_of p bus.B v ≡ Some (Cts (count_of t.unit)) → a.words ≡ [] → a.acked ≡ None → Stand p t a Awaiting (v ∷ []) Granted
  is_sending : {k : ℕ} {kp : SinkPhase}
      → InGrant kp → k < count_of t.unit → Pointer p t k a.words → a.acked ≡ None → Stand p t a (Sending k) [] kp
  is_sent : {kp : SinkPhase} → OwesBlock kp → a.acked ≡ None → Stand p t a Waiting [] kp
  is_answered : {v : ℕ}
      → (is_some a.acked ≡ true → message_of p bus.B v ≡ Some (Ack t.number.file t.number.ldu)) → Stand p t a Waiting (v ∷ []) Quiet

grant_listens : (kp : SinkPhase) → InGrant kp → Listens kp
grant_listens Granted h = tt
grant_listens (InBlock b) h = tt
grant_listens _ h = absurd h

block_owes : (kp : SinkPhase) → OwesBlock kp → Owes kp
block_owes (OwesAck b f) h = tt
block_owes OwesNak h = tt
block_owes _ h = absurd h

-- the source is idle with this link data unit, and the sink listens
record Ready (p : Contents) (s : State) (t : Assigned) (last : Option Number) (received : Received) (count : ℕ) : Type 0 where
  phase : SinkPhase
  listens : Listens phase
  way : Way p [] s (at (source_of t Idle) (sink_at last received count phase) [])

-- the source asks again
to_idle : (p : Contents) (t : Assigned) (a : Attempt) (sp : SourceState) (vs : List ℕ) (kp : SinkPhase) (last : Option Number)
    (received : Received) (count : ℕ)
    → Stand p t a sp vs kp → Ready p (at (source_of t sp) (sink_at last received count kp) vs) t last received count
to_idle p t a sp vs kp last received count (is_asked w n) =
    record {
      phase = Quiet;
      listens = tt;
      way = record { steps = Silent ∷ (TimeOut ∷ []); run = (tt, ((tt, refl, refl, tt), tt)); ends = refl; records = refl };
    }
to_idle p t a sp vs kp last received count (is_cleared m w n) =
    record {
      phase = Granted;
      listens = tt;
      way = record { steps = LoseAnswer ∷ (TimeOut ∷ []); run = (tt, ((tt, refl, refl, tt), tt)); ends = refl; records = refl };
    }
to_idle p t a sp vs kp last received count (is_sending {k} g h q n) =
    record {
      phase = kp;
      listens = grant_listens kp g;
      way =
          way_join p [] [] _ _ _ (lose_rest p t k (sink_at last received count kp) h)
          (record { steps = TimeOut ∷ []; run = ((tt, refl, refl, grant_listens kp g), tt); ends = refl; records = refl });
    }
to_idle p t a sp vs kp last received count (is_sent o n) =
    record {
      phase = Quiet;
      listens = tt;
      way = record { steps = Silent ∷ (TimeOut ∷ []); run = (block_owes kp o, ((tt, refl, refl, tt), tt)); ends = refl; records = refl };
    }
to_idle p t a sp vs kp last received count (is_answered m) =
    record {
      phase = Quiet;
      listens = tt;
      way = record { steps = LoseAnswer ∷ (TimeOut ∷ []); run = (tt, ((tt, refl, refl, tt), tt)); ends = refl; records = refl };
    }

-- files are given up
give_up : (p : Contents) (d g : ℕ) (n : UnitNumber) (cur : Option LduValue) (k : Sink) (m : UnitNumber) (h : ℕ)
    → m.file ≡ (n.file + suc d) % 256 → m.ldu ≡ p.codes.first_ldu → h ≡ g + suc d → h ≤ 127
    → Way p [] (at (source_at g n cur Idle) k []) (at (source_at h m None Idle) k [])
give_up p zero g n cur k m h ef el eh few =
    let number : first_number p.codes ((n.file + 1) % 256) ≡ m =
    number_from (first_number p.codes ((n.file + 1) % 256)) m (omega arith) (sym el) in
    let given : suc g ≡ h = omega arith in
    quiet_step p GiveUp _ _ refl (tt, omega arith)
    (ap (λ (x : UnitNumber). at (source_at (suc g) x None Idle) k []) number ∙ ap (λ x. at (source_at x m None Idle) k []) given)
give_up p (suc d) g n cur k m h ef el eh few =
    way_join p [] [] _ _ _ (quiet_step p GiveUp _ _ refl (tt, omega arith) refl)
    (give_up p d (suc g) (first_number p.codes ((n.file + 1) % 256)) None k m h (omega arith) el (omega arith) few)

gives_up : (p : Contents) (g : ℕ) (n : UnitNumber) (cur : Option LduValue) (k : Sink) (m : UnitNumber) (h : ℕ)
    → h ≤ 127 → GivesUp p.codes n g m h → Way p [] (at (source_at g n cur Idle) k []) (at (source_at h m None Idle) k [])
gives_up p g n cur k m h few (zero, low, ef, el, eh) = absurd (omega arith)
gives_up p g n cur k m h few (suc d, low, ef, el, eh) = give_up p d g n cur k m h ef el eh few

-- a link data unit is loaded
loads : (p : Contents) (t : Assigned) (k : Sink)
    → IsSound p t → Way p [] (at (source_at t.give_ups t.number None Idle) k []) (at (source_of t Idle) k [])
loads p t k s = quiet_step p (Load t.unit) _ _ refl (tt, refl, s.ldu, s.unit) refl

no_ack_none : (o : Option UnitNumber) → o ≡ None → is_some o ≡ true → ⊥
no_ack_none o n e = let none = ap is_some n in cc (none, e)

-- the acknowledgement is taken
take_ack : (p : Contents) (t : Assigned) (a : Attempt) (sp : SourceState) (vs : List ℕ) (kp : SinkPhase) (last : Option Number)
    (received : Received) (count : ℕ)
    → is_some a.acked ≡ true → Stand p t a sp vs kp
    → Way p [] (at (source_of t sp) (sink_at last received count kp) vs)
    (at (source_at 0 (number_after p.codes t.number t.unit) None Idle) (sink_at last received count Quiet) [])
take_ack p t a sp vs kp last received count ok (is_answered {v} m) =
    let own : is_number (record { file = t.number.file; ldu = t.number.ldu }) t.number ≡ true = number_same t.number in
    quiet_step p TakeAnswer _ _ refl tt
    (ap (λ q. at q (sink_at last received count Quiet) []) (with_answer_as p v (Ack t.number.file t.number.ldu) (source_of t Waiting) (m ok)
    ∙ ap (λ b. cond b (acknowledged p.codes t.unit (source_of t Waiting)) (source_of t Waiting)) own))
take_ack p t a sp vs kp last received count ok (is_asked w n) = absurd (no_ack_none a.acked n ok)
take_ack p t a sp vs kp last received count ok (is_cleared m w n) = absurd (no_ack_none a.acked n ok)
take_ack p t a sp vs kp last received count ok (is_sending g h q n) = absurd (no_ack_none a.acked n ok)
take_ack p t a sp vs kp last received count ok (is_sent o n) = absurd (no_ack_none a.acked n ok)

few_given_up : {p : Contents} {u : Assigned} → IsSound p u → u.give_ups ≤ 127
few_given_up s = let few = s.give_ups in omega arith

-- the source comes to the next attempt
to_next : (p : Contents) (t u : Assigned) (a : Attempt) (sp : SourceState) (vs : List ℕ) (kp : SinkPhase) (last : Option Number)
    (received : Received) (count : ℕ)
    → Stand p t a sp vs kp → IsSound p u → IsNext p.codes (Some t) (is_some a.acked) u
    → Ready p (at (source_of t sp) (sink_at last received count kp) vs) u last received count
to_next p t u a sp vs kp last received count h s (inl e) =
    subst (λ x. Ready p (at (source_of t sp) (sink_at last received count kp) vs) x last received count) (sym e)
    (to_idle p t a sp vs kp last received count h)
to_next p t u a sp vs kp last received count h s (inr (inl g)) =
    let r = to_idle p t a sp vs kp last received count h in
    let k = sink_at last received count r.phase in
    record {
      phase = r.phase;
      listens = r.listens;
      way =
          way_join p [] [] _ _ _ r.way
          (way_join p [] [] _ _ _ (gives_up p t.give_ups t.number (Some t.unit) k u.number u.give_ups (few_given_up s) g) (loads p u k s));
    }
to_next p t u a sp vs kp last received count h s (inr (inr (ok, inl (e, z)))) =
    let k = sink_at last received count Quiet in
    let here =
    subst (λ n. Way p [] (at (source_of t sp) (sink_at last received count kp) vs) (at (source_at 0 n None Idle) k [])) (sym e)
    (take_ack p t a sp vs kp last received count ok h) in
    let there =
    subst (λ g. Way p [] (at (source_of t sp) (sink_at last received count kp) vs) (at (source_at g u.number None Idle) k []))
    (sym z) here in
    record { phase = Quiet; listens = tt; way = way_join p [] [] _ _ _ there (loads p u k s) }
to_next p t u a sp vs kp last received count h s (inr (inr (ok, inr g))) =
    let k = sink_at last received count Quiet in
    record {
      phase = Quiet;
      listens = tt;
      way =
          way_join p [] [] _ _ _ (take_ack p t a sp vs kp last received count ok h)
          (way_join p [] [] _ _ _ (gives_up p 0 (number_after p.codes t.number t.unit) None k u.number u.give_ups (few_given_up s) g)
          (loads p u k s));
    }

-- it comes to the number of the first one
pub to_number : (p : Contents) (n : UnitNumber) (g : ℕ) (k : Sink) (f : ℕ) → n.file ≤ 255 → g ≤ 127 → n.ldu ≡ p.codes.first_ldu
    → f ≡ (n.file + 256 - g) % 256 → Way p [] (at (source_at 0 (first_number p.codes f) None Idle) k []) (at (source_at g n None Idle) k [])
to_number p n zero k f byte few l e =
    let file : f ≡ n.file = omega arith in
    let number : first_number p.codes f ≡ n = number_from (first_number p.codes f) n file (sym l) in
    record { steps = []; run = tt; ends = ap (λ (x : UnitNumber). at (source_at 0 x None Idle) k []) number; records = refl }
to_number p n (suc d) k f byte few l e = give_up p d 0 (first_number p.codes f) None k n (suc d) (omega arith) l (omega arith) few

-- it comes to the first one
to_first : (p : Contents) (u : Assigned) (k : Sink) (f : ℕ)
    → IsSound p u → u.number.ldu ≡ p.codes.first_ldu → f ≡ (u.number.file + 256 - u.give_ups) % 256
    → Way p [] (at (source_at 0 (first_number p.codes f) None Idle) k []) (at (source_of u Idle) k [])
to_first p u k f s l e = way_join p [] [] _ _ _ (to_number p u.number u.give_ups k f s.file (few_given_up s) l e) (loads p u k s)

-- ---- recorded words

abbrev pub on : Bus → ℕ → Seen
on b w = record { bus = b; word = w }

abbrev pub FirstOf : ℕ → List Assigned → Type 0
FirstOf f [] = Unit {0}
FirstOf f (t ∷ units) = f ≡ (t.number.file + 256 - t.give_ups) % 256

-- where a run stands: nothing is recorded but free words, or an attempt is under way
pub data Place (p : Contents) : Option Assigned → Attempt → Source → List ℕ → Sink → List Assigned → Type 0 where
  at_first_one : {a : Attempt} {last : Option Number} {received : Received} {count : ℕ} {units : List Assigned} (f : ℕ)
      → FirstOf f units → Place p None a (source_at 0 (first_number p.codes f) None Idle) [] (sink_at last received count Quiet) units
  in_attempt : {t : Assigned} {a : Attempt} {sp : SourceState} {vs : List ℕ} {last : Option Number} {received : Received} {count : ℕ}
      {kp : SinkPhase} {units : List Assigned}
      → count ≡ count_of t.unit → Stand p t a sp vs kp → Place p (Some t) a (source_of t sp) vs (sink_at last received count kp) units

-- a recorded word brings the run to a next place
pub record Move (p : Contents) (i : Seen) (items : List Seen) (s : State) (k : Sink) : Type 0 where
  pub now : Option Assigned
  pub attempt : Attempt
  pub units : List Assigned
  pub source : Source
  pub answers : List ℕ
  pub way : Way p (i ∷ []) s (at source (sink_sees p i.bus i.word k) answers)
  pub place : Place p now attempt source answers (sink_sees p i.bus i.word k) units
  pub goes : GoOnAssigned p now (attempts_from p attempt items) units

pub move_to : (p : Contents) (i : Seen) (items : List Seen) (s : State) (k k' : Sink) (now : Option Assigned) (a : Attempt)
    (units : List Assigned) (q : Source) (vs : List ℕ)
    → sink_sees p i.bus i.word k ≡ k' → Way p (i ∷ []) s (at q k' vs) → Place p now a q vs k' units
    → GoOnAssigned p now (attempts_from p a items) units → Move p i items s k
move_to p i items s k k' now a units q vs e w h g = record {
  now = now;
  attempt = a;
  units = units;
  source = q;
  answers = vs;
  way = subst (λ x. Way p (i ∷ []) s (at q x vs)) (sym e) w;
  place = subst (λ x. Place p now a q vs x units) (sym e) h;
  goes = g;
}

-- ---- a request

pub some_attempts : (p : Contents) (a : Attempt) (items : List Seen) → IsNonEmpty (attempts_from p a items)
some_attempts p a [] = tt
some_attempts p a (i ∷ items) =
    by (asks i.bus (form_of p.codes i.bus i.word)) (some_attempts p (grown i.bus i.word (form_of p.codes i.bus i.word) a) items)
  where
    by : (o : Option ℕ) → IsNonEmpty (attempts_from p (grown i.bus i.word (form_of p.codes i.bus i.word) a) items)
        → IsNonEmpty (goes_on_to i (form_of p.codes i.bus i.word) a o (λ b. attempts_from p b items))
    by None h = h
    by (Some n) h = tt

pub grown_count : (b : Bus) (w : ℕ) (o : Option Form) (a : Attempt) → (grown b w o a).count ≡ a.count
grown_count bus.A w (Some (form.Sot g f l)) a = refl
grown_count bus.A w (Some (form.Part s)) a = refl
grown_count bus.A w (Some (form.Eot f c)) a = refl
grown_count bus.B w (Some (form.Cts n)) a = refl
grown_count bus.B w (Some (form.Ack f l)) a = refl
grown_count _ w _ a = refl

count_assigned : (p : Contents) (t : Assigned) (a : Attempt) (items : List Seen) (units : List Assigned)
    → GoOnAssigned p (Some t) (attempts_from p a items) units → a.count ≡ count_of t.unit
count_assigned p t a [] units h = h.0.0.asked
count_assigned p t a (i ∷ items) units h =
    by (asks i.bus (form_of p.codes i.bus i.word))
    (λ g. count_assigned p t (grown i.bus i.word (form_of p.codes i.bus i.word) a) items units g) h
  where
    by : (o : Option ℕ)
        → (GoOnAssigned p (Some t) (attempts_from p (grown i.bus i.word (form_of p.codes i.bus i.word) a) items) units
        → (grown i.bus i.word (form_of p.codes i.bus i.word) a).count ≡ count_of t.unit)
        → GoOnAssigned p (Some t) (goes_on_to i (form_of p.codes i.bus i.word) a o (λ b. attempts_from p b items)) units
        → a.count ≡ count_of t.unit
    by None rec h = sym (grown_count i.bus i.word (form_of p.codes i.bus i.word) a) ∙ rec h
    by (Some n) rec h = h.0.0.asked

pub record Opened (p : Contents) (now : Option Assigned) (ok : Bool) (l : List Attempt) (units : List Assigned) : Type 0 where
  pub assigned_as : Assigned
  pub more : List Assigned
  pub is : units ≡ assigned_as ∷ more
  pub sound : IsSound p assigned_as
  pub next : IsNext p.codes now ok assigned_as
  pub goes : GoOnAssigned p (Some assigned_as) l more

pub open_assigned : (p : Contents) (now : Option Assigned) (ok : Bool) (l : List Attempt) (units : List Assigned)
    → IsNonEmpty l → AreAssigned p now ok l units → Opened p now ok l units
open_assigned p now ok [] units n h = absurd n
open_assigned p now ok (a ∷ l) [] n h = absurd h
open_assigned p now ok (a ∷ l) (t ∷ units) n h =
    record { assigned_as = t; more = units; is = refl; sound = h.0; next = h.1; goes = (h.2, h.3) }

ready : (p : Contents) (now : Option Assigned) (a : Attempt) (q : Source) (vs : List ℕ) (k : Sink) (units : List Assigned) (t : Assigned)
    (more : List Assigned)
    → Place p now a q vs k units → units ≡ t ∷ more → IsSound p t → IsNext p.codes now (is_some a.acked) t
    → Ready p (at q k vs) t k.last k.received k.count
ready p now a q vs k units t more (at_first_one {last} {received} {count} f first) is sound next =
    record { phase = Quiet; listens = tt; way = to_first p t (sink_at last received count Quiet) f sound next (subst (FirstOf f) is first) }
ready p now a q vs k units t more (in_attempt {t = u} {sp} {vs = ws} {last} {received} {count} {kp} c h) is sound next =
    to_next p u t a sp ws kp last received count h sound next

-- the one word of a request
request_word : (p : Contents) → IsProfile p → (w n : ℕ) → form_of p.codes bus.A w ≡ Some (form.Rts n) → word_number p.codes (form.Rts n) ≡ w
request_word p is w n e =
    let there = ((form_of-is p is bus.A w (form.Rts n)).0 e).1 in
    one_word p.codes bus.A (word_number p.codes (form.Rts n)) w (form.Rts n) (word_number-is p is (form.Rts n) there.range) there

ask : (p : Contents) → IsProfile p → (t : Assigned) (last : Option Number) (received : Received) (count : ℕ) (kp : SinkPhase) (w n : ℕ)
    → Listens kp → form_of p.codes bus.A w ≡ Some (form.Rts n) → n ≡ count_of t.unit
    → Way p (on bus.A w ∷ []) (at (source_of t Idle) (sink_at last received count kp) [])
    (at (source_of t Awaiting) (sink_at last received n OwesClear) [])
ask p is t last received count kp w n l e c =
    let word : word_number p.codes (form.Rts (count_of t.unit)) ≡ w =
    ap (λ m. word_number p.codes (form.Rts m)) (sym c) ∙ request_word p is w n e in
    record {
      steps = Sent (on bus.A w) ∷ (SinkTakes ∷ []);
      run = ((refl, ap (λ x. Some x) word), ((tt, l), tt));
      ends = ap (λ o. at (source_of t Awaiting) (takes_form p w o (sink_at last received count kp)) []) e;
      records = refl;
    }

pub move_request : (p : Contents)
    → IsProfile p → (w n : ℕ) (items : List Seen) (now : Option Assigned) (a : Attempt) (q : Source) (vs : List ℕ)
    (k : Sink) (units : List Assigned) → form_of p.codes bus.A w ≡ Some (form.Rts n) → Place p now a q vs k units
    → AreAssigned p now (is_some a.acked) (attempts_from p (fresh n) items) units → Move p (on bus.A w) items (at q k vs) k
move_request p is w n items now a q vs k units e h are =
    let o = open_assigned p now (is_some a.acked) (attempts_from p (fresh n) items) units (some_attempts p (fresh n) items) are in
    let c = count_assigned p o.assigned_as (fresh n) items o.more o.goes in
    let r = ready p now a q vs k units o.assigned_as o.more h o.is o.sound o.next in
    let way = way_join p [] (on bus.A w ∷ []) _ _ _ r.way (ask p is o.assigned_as k.last k.received k.count r.phase w n r.listens e c) in
    move_to p (on bus.A w) items (at q k vs) k (sink_at k.last k.received n OwesClear) (Some o.assigned_as) (fresh n) o.more
    (source_of o.assigned_as Awaiting) [] (ap (λ x. takes_form p w x k) e) way (in_attempt c (is_asked refl refl)) o.goes

-- ---- answers

grant_none : (count n : ℕ) (kp : SinkPhase) → InGrant kp → MayAnswer count kp (form.Cts n) → ⊥
grant_none count n Granted g m = m
grant_none count n (InBlock b) g m = m
grant_none count n _ g m = g

block_none : (count n : ℕ) (kp : SinkPhase) → OwesBlock kp → MayAnswer count kp (form.Cts n) → ⊥
block_none count n (OwesAck b f) g m = m
block_none count n OwesNak g m = m
block_none count n _ g m = g

answer : (p : Contents) (t : Assigned) (sp : SourceState) (k k' : Sink) (w : ℕ) (x : Form)
    → form_of p.codes bus.B w ≡ Some x → MayAnswer k.count k.phase x → answers_form p.codes (Some x) k ≡ k'
    → Way p (on bus.B w ∷ []) (at (source_of t sp) k []) (at (source_of t sp) k' (w ∷ []))
answer p t sp k k' w x e m h = record {
  steps = Answered (on bus.B w) ∷ [];
  run = ((refl, subst (MayAnswerForm k.count k.phase) (sym e) m), tt);
  ends = ap (λ o. at (source_of t sp) (answers_form p.codes o k) (w ∷ [])) e ∙ ap (λ y. at (source_of t sp) y (w ∷ [])) h;
  records = refl;
}

pub move_clear : (p : Contents) (w n : ℕ) (items : List Seen) (now : Option Assigned) (a : Attempt) (q : Source) (vs : List ℕ) (k : Sink)
    (units : List Assigned)
    → form_of p.codes bus.B w ≡ Some (form.Cts n) → MayAnswer k.count k.phase (form.Cts n) → Place p now a q vs k units
    → GoOnAssigned p now (attempts_from p (record a { words = [] }) items) units → Move p (on bus.B w) items (at q k vs) k
move_clear p w n items now a q vs k units e m (at_first_one f first) goes = absurd m
move_clear p w n items now a q vs k units e m (in_attempt {t} {last} {received} {count} c (is_asked words none)) goes =
    let said : message_of p bus.B w ≡ Some (Cts (count_of t.unit)) = ap (message_in w) e ∙ ap (λ z. Some (Cts z)) (m ∙ c) in
    move_to p (on bus.B w) items (at q k vs) (sink_at last received count OwesClear) (sink_at last received count Granted) (Some t)
    (record a { words = [] }) units (source_of t Awaiting) (w ∷ [])
    (ap (λ x. answers_form p.codes x (sink_at last received count OwesClear)) e)
    (answer p t Awaiting (sink_at last received count OwesClear) (sink_at last received count Granted) w (form.Cts n) e m refl)
    (in_attempt c (is_cleared said refl none)) goes
move_clear p w n items now a q vs k units e m (in_attempt c (is_cleared s words none)) goes = absurd m
move_clear p w n items now a q vs k units e m (in_attempt {count} {kp} c (is_sending g l ptr none)) goes =
    absurd (grant_none count n kp g m)
move_clear p w n items now a q vs k units e m (in_attempt {count} {kp} c (is_sent o none)) goes = absurd (block_none count n kp o m)
move_clear p w n items now a q vs k units e m (in_attempt c (is_answered s)) goes = absurd m

grant_no_nak : (count n : ℕ) (kp : SinkPhase) → InGrant kp → MayAnswer count kp (form.Nak n) → ⊥
grant_no_nak count n Granted g m = m
grant_no_nak count n (InBlock b) g m = m
grant_no_nak count n _ g m = g

grant_no_ack : (count f l : ℕ) (kp : SinkPhase) → InGrant kp → MayAnswer count kp (form.Ack f l) → ⊥
grant_no_ack count f l Granted g m = m
grant_no_ack count f l (InBlock b) g m = m
grant_no_ack count f l _ g m = g

pub move_nak : (p : Contents) (w n : ℕ) (items : List Seen) (now : Option Assigned) (a : Attempt) (q : Source) (vs : List ℕ) (k : Sink)
    (units : List Assigned)
    → form_of p.codes bus.B w ≡ Some (form.Nak n) → MayAnswer k.count k.phase (form.Nak n) → Place p now a q vs k units
    → GoOnAssigned p now (attempts_from p a items) units → Move p (on bus.B w) items (at q k vs) k
move_nak p w n items now a q vs k units e m (at_first_one f first) goes = absurd m
move_nak p w n items now a q vs k units e m (in_attempt c (is_asked words none)) goes = absurd m
move_nak p w n items now a q vs k units e m (in_attempt c (is_cleared s words none)) goes = absurd m
move_nak p w n items now a q vs k units e m (in_attempt {count} {kp} c (is_sending g l ptr none)) goes =
    absurd (grant_no_nak count n kp g m)
move_nak p w n items now a q vs k units e m (in_attempt {t} {last} {received} {count} {kp} c (is_sent o none)) goes =
    move_to p (on bus.B w) items (at q k vs) (sink_at last received count kp) (sink_at last received count Quiet) (Some t) a units
    (source_of t Waiting) (w ∷ []) (ap (λ x. answers_form p.codes x (sink_at last received count kp)) e)
    (answer p t Waiting (sink_at last received count kp) (sink_at last received count Quiet) w (form.Nak n) e m refl)
    (in_attempt c (is_answered (λ ok. absurd (no_ack_none a.acked none ok)))) goes
move_nak p w n items now a q vs k units e m (in_attempt c (is_answered s)) goes = absurd m

pub move_ack : (p : Contents) (w f l : ℕ) (items : List Seen) (now : Option Assigned) (a : Attempt) (q : Source) (vs : List ℕ) (k : Sink)
    (units : List Assigned)
    → form_of p.codes bus.B w ≡ Some (form.Ack f l) → MayAnswer k.count k.phase (form.Ack f l) → HoldsAt p (at q k vs)
    → Place p now a q vs k units
    → GoOnAssigned p now (attempts_from p (record a { acked = Some (record { file = f; ldu = l }) }) items) units
    → Move p (on bus.B w) items (at q k vs) k
move_ack p w f l items now a q vs k units e m holds (at_first_one i first) goes = absurd m
move_ack p w f l items now a q vs k units e m holds (in_attempt c (is_asked words none)) goes = absurd m
move_ack p w f l items now a q vs k units e m holds (in_attempt c (is_cleared s words none)) goes = absurd m
move_ack p w f l items now a q vs k units e m holds (in_attempt {count} {kp} c (is_sending g h ptr none)) goes =
    absurd (grant_no_ack count f l kp g m)
move_ack p w f l items now a q vs k units e m holds (in_attempt {t} {last} {received} {count} {kp} c (is_sent o none)) goes =
    let here = sink_at last received count kp in
    let taken = accepts_owed p.codes kp here in
    let own = own_ack _ _ _ _ _ _ _ f l m holds.fits in
    let said : message_of p bus.B w ≡ Some (Ack t.number.file t.number.ldu) =
    ap (message_in w) e ∙ ap (λ (z : UnitNumber). Some (Ack z.file z.ldu)) own in
    move_to p (on bus.B w) items (at q k vs) here (sink_at taken.last taken.received taken.count Quiet) (Some t) (record a {
      acked = Some (record { file = f; ldu = l });
    }) units (source_of t Waiting) (w ∷ []) (ap (λ x. answers_form p.codes x here) e)
    (answer p t Waiting here (sink_at taken.last taken.received taken.count Quiet) w (form.Ack f l) e m refl)
    (in_attempt (acks_count p.codes kp here ∙ c) (is_answered (λ ok. said))) goes
move_ack p w f l items now a q vs k units e m holds (in_attempt c (is_answered s)) goes = absurd m

-- ---- words of a block

-- the first place where a word stands from which others follow
record Next (w : ℕ) (xs : List ℕ) : Type 0 where
  place : ℕ
  here : slice_get xs place ≡ Some w
  after : (zs : List ℕ) → IsSubsequenceOf (w ∷ zs) xs → IsSubsequenceOf zs (drop (suc place) xs)

find_next : (w : ℕ) (ys xs : List ℕ) → IsSubsequenceOf (w ∷ ys) xs → Next w xs
find_next w ys [] h = absurd (cc h)
find_next w ys (x ∷ xs) h = by (eqb x w) refl (λ g. find_next w ys xs g) h
  where
    by : (b : Bool) → eqb x w ≡ b → (IsSubsequenceOf (w ∷ ys) xs → Next w xs) → IsSubsequenceOf (w ∷ ys) (x ∷ xs) → Next w (x ∷ xs)
    by true e rec h = record { place = 0; here = ap (λ z. Some z) (eqb-true x w e); after = first }
      where
        first : (zs : List ℕ) → IsSubsequenceOf (w ∷ zs) (x ∷ xs) → IsSubsequenceOf zs xs
        first zs (inl g) = sub_rest w zs xs g
        first zs (inr (us, q, g)) = let same : us ≡ zs = cc in subst (λ l. IsSubsequenceOf l xs) same g
    by false e rec (inl g) = let r = rec g in record { place = suc r.place; here = r.here; after = later r }
      where
        later : (r : Next w xs) → (zs : List ℕ) → IsSubsequenceOf (w ∷ zs) (x ∷ xs) → IsSubsequenceOf zs (drop (suc r.place) xs)
        later r zs (inl k) = r.after zs k
        later r zs (inr (us, q, k)) = let same : x ≡ w = cc in absurd (eqb-false x w e same)
    by false e rec (inr (us, q, g)) = let same : x ≡ w = cc in absurd (eqb-false x w e same)

-- its place in the whole list
record Placed (k j w : ℕ) (xs : List ℕ) : Type 0 where
  place : ℕ
  is : place ≡ k + j
  here : slice_get xs place ≡ Some w
  after : drop (suc j) (drop k xs) ≡ drop (suc place) xs

placed : (k j w : ℕ) (xs : List ℕ) → slice_get (drop k xs) j ≡ Some w → Placed k j w xs
placed zero j w xs e = record { place = j; is = omega arith; here = e; after = refl }
placed (suc k) j w [] e = absurd (cc e)
placed (suc k) j w (x ∷ xs) e =
    let r = placed k j w xs e in let is = r.is in record { place = suc r.place; is = omega arith; here = r.here; after = r.after }

abbrev pub IsBlockForm : Form → Type 0
IsBlockForm (form.Sot g f l) = Unit {0}
IsBlockForm (form.Part s) = Unit {0}
IsBlockForm (form.Eot f c) = Unit {0}
IsBlockForm _ = ⊥

-- what the source and the sink are after a word of the block at this place
record AfterWord (p : Contents) (t : Assigned) (a : Attempt) (m : ℕ) (k : Sink) : Type 0 where
  phase : SourceState
  after_it : after_word (Some t.unit) (Sending m) ≡ phase
  count : k.count ≡ count_of t.unit
  stand : Stand p t a phase [] k.phase

-- a word in front of the last
front_sent : (p : Contents) (t : Assigned) (a : Attempt) (m : ℕ) (last : Option Number) (received : Received) (count : ℕ) (kp : SinkPhase)
    (w : ℕ) (x : Form) (said : Message)
    → InGrant kp → count ≡ count_of t.unit → suc m < count_of t.unit → Pointer p t (suc m) a.words → a.acked ≡ None → IsBlockForm x
    → message_in w (Some x) ≡ Some said → IsFrontWord said → AfterWord p t a m (takes_form p w (Some x) (sink_at last received count kp))
front_sent p t a m last received count kp w (form.Sot g f l) said i c h ptr none b e fw =
    record {
      phase = Sending (suc m);
      after_it = not_last m (count_of t.unit) h (eqb (suc m) (count_of t.unit)) refl;
      count = c;
      stand = is_sending (started kp i) h ptr none;
    }
  where
    started : (kp : SinkPhase) → InGrant kp → InGrant (at_start (record { gfi = g; file = f; ldu = l; words = [] }) kp)
    started Granted i = tt
    started (InBlock b) i = tt
    started _ i = absurd i
front_sent p t a m last received count kp w (form.Part s) said i c h ptr none b e fw =
    record {
      phase = Sending (suc m);
      after_it = not_last m (count_of t.unit) h (eqb (suc m) (count_of t.unit)) refl;
      count = c;
      stand = is_sending (goes_on kp i) h ptr none;
    }
  where
    goes_on : (kp : SinkPhase) → InGrant kp → InGrant (at_part w kp)
    goes_on Granted i = tt
    goes_on (InBlock b) i = tt
    goes_on _ i = absurd i
front_sent p t a m last received count kp w (form.Eot f q) said i c h ptr none b e fw =
    let same : Eot f q ≡ said = cc in absurd (subst IsFrontWord (sym same) fw)
front_sent p t a m last received count kp w _ said i c h ptr none b e fw = absurd b

-- the end word
end_sent : (p : Contents) (t : Assigned) (a : Attempt) (m : ℕ) (last : Option Number) (received : Received) (count : ℕ) (kp : SinkPhase)
    (w : ℕ) (x : Form) (said : Message)
    → InGrant kp → count ≡ count_of t.unit → suc m ≡ count_of t.unit → a.acked ≡ None → IsBlockForm x → message_in w (Some x) ≡ Some said
    → said ≡ end_message t.unit → AfterWord p t a m (takes_form p w (Some x) (sink_at last received count kp))
end_sent p t a m last received count kp w (form.Eot f q) said i c h none b e same =
    record { phase = Waiting; after_it = is_last m (count_of t.unit) h; count = c; stand = is_sent (ended kp i) none }
  where
    owes : (b : Bool) (block : Block) → OwesBlock (cond b (OwesAck block f) OwesNak)
    owes true block = tt
    owes false block = tt

    ended : (kp : SinkPhase) → InGrant kp → OwesBlock (at_end p last count (end_word f q) kp)
    ended Granted i = tt
    ended (InBlock block) i = owes (is_good p last count block q) block
    ended _ i = absurd i
end_sent p t a m last received count kp w (form.Sot g f l) said i c h none b e same = absurd (cc (e, same))
end_sent p t a m last received count kp w (form.Part s) said i c h none b e same = absurd (cc (e, same))
end_sent p t a m last received count kp w _ said i c h none b e same = absurd b

-- the words before it are lost, and it is sent and taken
send_word : (p : Contents) → IsRead p → (t : Assigned) (a : Attempt) (k : ℕ) (last : Option Number) (received : Received) (count : ℕ)
    (kp : SinkPhase) (w : ℕ) (x : Form) (rest : List ℕ) (items : List Seen) (units : List Assigned)
    → form_of p.codes bus.A w ≡ Some x → IsBlockForm x → InGrant kp → k < count_of t.unit → Pointer p t k a.words → a.acked ≡ None
    → count ≡ count_of t.unit → HoldsAt p (at (source_of t (Sending k)) (sink_at last received count kp) [])
    → IsSubsequenceOf (a.words ++ w ∷ rest) (block_of p.codes t.unit t.number.file t.number.ldu)
    → GoOnAssigned p (Some t) (attempts_from p (record a { words = a.words ++ w ∷ [] }) items) units
    → Move p (on bus.A w) items (at (source_of t (Sending k)) (sink_at last received count kp) []) (sink_at last received count kp)
send_word p good t a k last received count kp w x rest items units e b i l ptr none c holds sub goes =
    let block = block_of p.codes t.unit t.number.file t.number.ldu in
    let sink = sink_at last received count kp in
    let more : Attempt = record a { words = a.words ++ w ∷ [] } in
    let next = find_next w rest (drop k block) (ptr (w ∷ rest) sub) in
    let there = placed k next.place w block next.here in
    let m = there.place in
    let inside : m < count_of t.unit = omega (arith, slice_get_within block m w there.here, block_length p.codes t.unit t.number) in
    let first = lose_to p t next.place k m sink there.is inside in
    let held = way_holds p good [] _ _ first holds in
    let says = sends p good (source_of t (Sending m)) w held.file held.current there.here in
    let said : message_in w (Some x) ≡ Some says.said = subst (λ o. message_in w o ≡ Some says.said) e says.says in
    let pointer : Pointer p t (suc m) more.words = λ ys h. subst (λ z. IsSubsequenceOf ys z) there.after
    (next.after ys (ptr (w ∷ ys) (subst (λ z. IsSubsequenceOf z block) (append_assoc a.words (w ∷ []) ys) h))) in
    let sent =
    elim (get_front m says.said (end_message t.unit) (front t.unit t.number) says.next) as (λ q.
    AfterWord p t more m (takes_form p w (Some x) sink)) [
      | inl (h, g) ↦
          front_sent p t more m last received count kp w x says.said i c (omega (arith, length-front t.unit t.number)) pointer none b said
          (each_get IsFrontWord m (front t.unit t.number) says.said (front_words t.unit t.number) g)
      | inr (h, g) ↦
          end_sent p t more m last received count kp w x says.said i c (omega (arith, length-front t.unit t.number)) none b said g
    ] in
    let taken = takes_form p w (Some x) sink in
    let word : Way p (on bus.A w ∷ []) (at (source_of t (Sending m)) sink []) (at (source_of t sent.phase) taken []) = record {
      steps = Sent (on bus.A w) ∷ (SinkTakes ∷ []);
      run = ((refl, there.here), ((tt, grant_listens kp i), tt));
      ends = ap (λ o. at (source_of t (after_word (Some t.unit) (Sending m))) (takes_form p w o sink) []) e
          ∙ ap (λ q. at (source_of t q) taken []) sent.after_it;
      records = refl;
    } in
    move_to p (on bus.A w) items _ sink taken (Some t) more units (source_of t sent.phase) [] (ap (λ o. takes_form p w o sink) e)
    (way_join p [] (on bus.A w ∷ []) _ _ _ first word) (in_attempt sent.count sent.stand) goes

no_grant : (kp : SinkPhase) → OwesBlock kp → HasGrant kp → ⊥
no_grant (OwesAck b f) o h = h
no_grant OwesNak o h = h
no_grant _ o h = o

pub move_block : (p : Contents) → IsRead p → (w : ℕ) (x : Form) (items : List Seen) (t : Assigned) (a : Attempt) (q : Source) (vs : List ℕ)
    (k : Sink) (units : List Assigned) (rest : List ℕ) → form_of p.codes bus.A w ≡ Some x → IsBlockForm x → HasGrant k.phase
    → HoldsAt p (at q k vs) → IsSubsequenceOf (a.words ++ w ∷ rest) (block_of p.codes t.unit t.number.file t.number.ldu)
    → Place p (Some t) a q vs k units → GoOnAssigned p (Some t) (attempts_from p (record a { words = a.words ++ w ∷ [] }) items) units
    → Move p (on bus.A w) items (at q k vs) k
move_block p good w x items t a q vs k units rest e b g holds sub (in_attempt c (is_asked words none)) goes = absurd g
move_block p good w x items t a q vs k units rest e b g holds sub (in_attempt c (is_answered s)) goes = absurd g
move_block p good w x items t a q vs k units rest e b g holds sub (in_attempt {kp} c (is_sent o none)) goes = absurd (no_grant kp o g)
move_block p good w x items t a q vs k units rest e b g holds sub
    (in_attempt {last} {received} {count} {kp} c (is_sending {k = n} i l ptr none)) goes =
    send_word p good t a n last received count kp w x rest items units e b i l ptr none c holds sub goes
move_block p good w x items t a q vs k units rest e b g holds sub (in_attempt {last} {received} {count} c (is_cleared {v} s words none))
    goes =
    let sink = sink_at last received count Granted in
    let block = block_of p.codes t.unit t.number.file t.number.ldu in
    let first : Way p [] (at (source_of t Awaiting) sink (v ∷ [])) (at (source_of t (Sending 0)) sink []) =
    quiet_step p TakeAnswer _ _ refl tt
    (ap (λ z. at z sink []) (with_answer_as p v (Cts (count_of t.unit)) (source_of t Awaiting) s
    ∙ ap (λ z. cond z (source_of t (Sending 0)) (source_of t Awaiting)) (eq-eqb (count_of t.unit) (count_of t.unit) refl))) in
    let pointer : Pointer p t 0 a.words = λ ys h. subst (λ l. IsSubsequenceOf (l ++ ys) block) words h in
    let move =
    send_word p good t a 0 last received count Granted w x rest items units e b tt (omega arith) pointer none c
    (way_holds p good [] _ _ first holds) sub goes in
    record {
      now = move.now;
      attempt = move.attempt;
      units = move.units;
      source = move.source;
      answers = move.answers;
      way = way_join p [] (on bus.A w ∷ []) _ _ _ first move.way;
      place = move.place;
      goes = move.goes;
    }
