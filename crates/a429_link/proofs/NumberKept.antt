-- The attempts under one number are of one link data unit, as long as no other is acknowledged.
use Rattle.std.proofs.Common.{◌≡◌, ◌⊎◌, ℕ, List, [], ◌∷◌, ◌++◌, length, Option, Some, None, refl, sym, ap, ◌∙◌, subst, inl, inr, arith, append_assoc}
use Rattle.a429_word.specs.declared.bus.Bus.{Bus}
use Rattle.a429_word.specs.declared.bus.Bus.TheVariants as bus
use Rattle.a429_profile.specs.Profile.{Contents}
use Rattle.a429_ldu.specs.declared.forms.Form.{Form}
use Rattle.a429_ldu.specs.declared.forms.Form.TheVariants as form
use Rattle.a429_ldu.specs.Form.{form_of}
use Rattle.a429_ldu.specs.Ldu.{LduValue, IsLdu, block_of, count_of}
use Rattle.a429_link.specs.declared.number.UnitNumber.{UnitNumber}
use Rattle.a429_link.specs.declared.seen.Seen.{Seen}
use Rattle.a429_link.specs.declared.state.SourceState.{SourceState}
use Rattle.a429_link.specs.declared.state.SourceState.TheVariants.{Awaiting, Idle, Sending, Waiting}
use Rattle.a429_link.specs.declared.step.Step.{Step}
use Rattle.a429_link.specs.declared.step.Step.TheVariants.{Answered, FreeSeen, Sent}
use Rattle.a429_link.specs.Attempt.{BeginsUnder, HasNumber, IsAttemptAt, IsStartOf, latest}
use Rattle.a429_link.specs.Group.{AcksOnly, ArePartsOfWhole, IsFurther, IsGroup, IsOneUnit}
use Rattle.a429_link.specs.Run.{BeginsARun, IsRun, IsSubsequenceOf, trace, with_label}
use Rattle.a429_link.specs.Sink.{Sink, SinkPhase}
use Rattle.a429_link.specs.Source.{Source}
use Rattle.a429_link.specs.State.{State, rest, start}
use Rattle.a429_link.specs.Step.{Can, after, label}
use Rattle.a429_link.proofs.Message.{Cts, Eot, IsRead, Message, Part, Sot, message_in, message_of, next_message}
use Rattle.a429_link.proofs.Subsequence.{sub_length}
use Rattle.a429_link.proofs.SourceBlock.{block_length}
use Rattle.a429_link.proofs.SinkShelves.{Past}
use Rattle.a429_link.proofs.StateConfigs.{Config, idle, sending}
use Rattle.a429_link.proofs.StateHolds.{Current, HoldsAt, owed_form, sends, start_holds, step_holds}
use Rattle.a429_link.proofs.SinkFromTrace.{Alike, IsStill, sees, step_alike}
use Rattle.a429_link.proofs.LatestAttempt.{attempt, attempt_from, joins, latest_count, latest_words}
use Rattle.a429_link.proofs.WholeBlock.{all_taken_fit}
use Rattle.a429_link.proofs.NumbersCome.{start_has_number}
use Rattle.a429_link.specs.Trace.{sink_after, sink_at_first}
use Rattle.a429_link.proofs.NumberStages.{joined, join_item, join_label, joins_on, free_joins, numbered, IsPast, Kept, Gone, words_none, words_all, Since, step_kept, none_begins, AfterRest, step_rested, AcksItem, OnLabel, step_gone}

-- ---- the three together: once an attempt under the number was recorded

abbrev Stage : Contents → UnitNumber → LduValue → State → Sink → List ℕ → Type 0
Stage p n u s k att = Since p n u s k att ⊎ Gone p n s att

step_stage : (p : Contents)
    → IsRead p → (n : UnitNumber) (u : LduValue) (a : Step) (s : State) (k : Sink) (att : List ℕ) → Can p a s → HoldsAt p s → Alike p s k
    → OnLabel (AcksItem p n) (label a) → Stage p n u s k att → Stage p n u (after p a s) (sees p (label a) k) (join_label p (label a) att)
step_stage p good n u a s k att c f m ok (inl (inl h)) = inl (step_kept p good n u a s k att c f h)
step_stage p good n u a s k att c f m ok (inl (inr h)) = rested (step_rested p good n u a s k att c f h)
  where
    rested : AfterRest p n u (after p a s) (sees p (label a) k) (join_label p (label a) att)
        → Stage p n u (after p a s) (sees p (label a) k) (join_label p (label a) att)
    rested (inl r) = inl (inr r)
    rested (inr r) = inr r
step_stage p good n u a s k att c f m ok (inr h) = inr (step_gone p good n a s att c f ok h)

-- an attempt that begins under a number is of a link data unit, which was current under it
record Found (p : Contents) (n : UnitNumber) (s : State) (k : Sink) (att : List ℕ) : Type 0 where
  unit : LduValue
  is : IsLdu p unit
  since : Since p n unit s k att

abbrev Begun : Contents → State → Sink → List ℕ → Type 0
Begun p s k att = (n : UnitNumber) → BeginsUnder p n att → Found p n s k att

-- one that began before this step
goes_on : (p : Contents) → IsRead p → (n : UnitNumber) (a : Step) (s : State) (k : Sink) (att : List ℕ) → Can p a s → HoldsAt p s
    → BeginsUnder p n (join_label p (label a) att) → Found p n s k att
    → Found p n (after p a s) (sees p (label a) k) (join_label p (label a) att)
goes_on p good n a s k att c f begins found = record { unit = found.unit; is = found.is; since = by found.since }
  where
    stays : AfterRest p n found.unit (after p a s) (sees p (label a) k) (join_label p (label a) att)
        → Since p n found.unit (after p a s) (sees p (label a) k) (join_label p (label a) att)
    stays (inl r) = inr r
    stays (inr r) = absurd (r.2 begins)

    by : Since p n found.unit s k att → Since p n found.unit (after p a s) (sees p (label a) k) (join_label p (label a) att)
    by (inl h) = step_kept p good n found.unit a s k att c f h
    by (inr h) = stays (step_rested p good n found.unit a s k att c f h)

-- one that begins at this step
record Fresh (p : Contents) (s : State) (k : Sink) : Type 0 where
  unit : LduValue
  is : IsLdu p unit
  kept : Kept p s.source.number unit s k []

fresh_at : (p : Contents) (s : State) (k : Sink) (number : UnitNumber) (cur : Option LduValue) (sp : SourceState) (count : ℕ)
    (kp : SinkPhase) (xs ys : List Message) (g f l : ℕ)
    → s.source.number ≡ number → s.source.current ≡ cur → k.count ≡ count → Current p cur number.ldu
    → next_message number cur sp ≡ Some (Sot g f l) → Config number cur sp count kp xs ys → Fresh p s k
fresh_at p s k number None sp count kp xs ys g f l en ec ek is e (idle a b) = absurd (cc e)
fresh_at p s k number (Some u) sp count kp xs ys g f l en ec ek is e (idle a b) = absurd (cc e)
fresh_at p s k number cur sp count kp xs ys g f l en ec ek is e (sending {u} r i c le q) =
    record { unit = u; is = is.2; kept = (refl, ec, words_none p s.source.number u s.source.phase s.to_source, ek ∙ c) }
fresh_at p s k number cur sp count kp xs ys g f l en ec ek is e _ = absurd (cc e)

still_start : (number : UnitNumber) (cur : Option LduValue) (sp : SourceState) (g f l : ℕ)
    → next_message number cur sp ≡ Some (Sot g f l) → IsStill sp → ⊥
still_start number (Some u) Idle g f l e i = cc e
still_start number (Some u) (Sending k) g f l e i = i
still_start number (Some u) Awaiting g f l e i = cc e
still_start number (Some u) Waiting g f l e i = cc e
still_start number None sp g f l e i = cc e

newly_sent : (p : Contents) (s : State) (k : Sink) (g f l : ℕ)
    → HoldsAt p s → Alike p s k → next_message s.source.number s.source.current s.source.phase ≡ Some (Sot g f l) → Fresh p s k
newly_sent p s k g f l h (inl m) e =
    let fits =
    subst (λ (q : Sink). Config s.source.number s.source.current s.source.phase q.count q.phase [] h.ys) m
    (all_taken_fit p s.source.number s.source.current s.source.phase s.to_sink s.sink h.xs h.ys h.sink_words h.fits) in
    fresh_at p s k s.source.number s.source.current s.source.phase k.count k.phase [] h.ys g f l refl refl refl h.current e fits
newly_sent p s k g f l h (inr r) e = absurd (still_start s.source.number s.source.current s.source.phase g f l e r.still)

start_number : (number : UnitNumber) (cur : Option LduValue) (sp : SourceState) (g f l : ℕ)
    → next_message number cur sp ≡ Some (Sot g f l) → record { file = f; ldu = l } ≡ number
start_number number (Some u) Idle g f l e = absurd (cc e)
start_number number (Some u) (Sending k) g f l e = start_has_number number u k g f l e
start_number number (Some u) Awaiting g f l e = absurd (cc e)
start_number number (Some u) Waiting g f l e = absurd (cc e)
start_number number None sp g f l e = absurd (cc e)

-- what the first word of an attempt says
first_start : (p : Contents) (n : UnitNumber) (w : ℕ) (x : Message) (o : Option Form)
    → message_in w o ≡ Some x → IsStartOf n o → (g : ℕ) × (f : ℕ) × (l : ℕ) × (x ≡ Sot g f l) × (record { file = f; ldu = l } ≡ n)
first_start p n w x (Some (form.Sot g f l)) e h = let same : Sot g f l ≡ x = cc in (g, f, l, sym same, h)
first_start p n w x _ e h = absurd h

-- an attempt that begins with this word
started : (p : Contents) (n : UnitNumber) (w : ℕ) (x : Message) → message_of p bus.A w ≡ Some x
    → BeginsUnder p n (joined bus.A w (Some x) []) → (g : ℕ) × (f : ℕ) × (l : ℕ) × (x ≡ Sot g f l) × (record { file = f; ldu = l } ≡ n)
started p n w (Sot g f l) e h = first_start p n w (Sot g f l) (form_of p.codes bus.A w) e h
started p n w (Part s) e h = first_start p n w (Part s) (form_of p.codes bus.A w) e h
started p n w (Eot f c) e h = first_start p n w (Eot f c) (form_of p.codes bus.A w) e h
started p n w _ e h = absurd h

answer_none : (w : ℕ) (x : Message) → joined bus.B w (Some x) [] ≡ []
answer_none w (Cts n) = refl
answer_none w _ = refl

fresh_step : (p : Contents) → IsRead p → (n : UnitNumber) (a : Step) (s : State) (k : Sink) → Can p a s → HoldsAt p s → Alike p s k
    → BeginsUnder p n (join_label p (label a) []) → Found p n (after p a s) (sees p (label a) k) (join_label p (label a) [])
fresh_step p good n (Sent i) s k c f m begins =
    let says = sends p good s.source i.word f.file f.current c.1 in
    let begun = started p n i.word says.said says.says (subst (BeginsUnder p n) (joins_on p i bus.A says.said [] c.0 says.says) begins) in
    let next = subst (λ y. next_message s.source.number s.source.current s.source.phase ≡ Some y) begun.3 says.next in
    let now = newly_sent p s k begun.0 begun.1 begun.2 f m next in
    let number : s.source.number ≡ n =
    sym (start_number s.source.number s.source.current s.source.phase begun.0 begun.1 begun.2 next) ∙ begun.4 in
    let kept : Kept p n now.unit s k [] = (number, now.kept.1, words_none p n now.unit s.source.phase s.to_source, now.kept.3) in
    goes_on p good n (Sent i) s k [] c f begins (record { unit = now.unit; is = now.is; since = inl kept })
fresh_step p good n (Answered i) s k c f m begins =
    let r = owed_form p s i c in
    absurd (none_begins p n (join_item p i []) (joins_on p i bus.B r.said [] c.0 r.is ∙ answer_none i.word r.said) begins)
fresh_step p good n (FreeSeen i) s k c f m begins =
    absurd (none_begins p n (join_item p i []) (free_joins p i [] (good.free i.bus i.word c)) begins)
fresh_step p good n _ s k c f m begins = absurd begins

-- an attempt that goes on begins as it began
begins_still : (p : Contents) (n : UnitNumber) (b : Bus) (w : ℕ) (o : Option Form) (v : ℕ) (words : List ℕ)
    → BeginsUnder p n (joins b w o (v ∷ words)) → BeginsUnder p n (v ∷ words)
begins_still p n bus.A w None v words h = h
begins_still p n bus.A w (Some (form.Rts m)) v words h = absurd h
begins_still p n bus.A w (Some (form.Cts m)) v words h = h
begins_still p n bus.A w (Some (form.Ack f l)) v words h = h
begins_still p n bus.A w (Some (form.Nak m)) v words h = h
begins_still p n bus.A w (Some (form.Sot g f l)) v words h = h
begins_still p n bus.A w (Some (form.Part s)) v words h = h
begins_still p n bus.A w (Some (form.Eot f c)) v words h = h
begins_still p n bus.B w None v words h = h
begins_still p n bus.B w (Some (form.Rts m)) v words h = h
begins_still p n bus.B w (Some (form.Cts m)) v words h = absurd h
begins_still p n bus.B w (Some (form.Ack f l)) v words h = h
begins_still p n bus.B w (Some (form.Nak m)) v words h = h
begins_still p n bus.B w (Some (form.Sot g f l)) v words h = h
begins_still p n bus.B w (Some (form.Part s)) v words h = h
begins_still p n bus.B w (Some (form.Eot f c)) v words h = h

begins_before : (p : Contents) (n : UnitNumber) (l : Option Seen) (v : ℕ) (words : List ℕ)
    → BeginsUnder p n (join_label p l (v ∷ words)) → BeginsUnder p n (v ∷ words)
begins_before p n None v words h = h
begins_before p n (Some i) v words h = begins_still p n i.bus i.word (form_of p.codes i.bus i.word) v words h

begun_by : (p : Contents)
    → IsRead p → (n : UnitNumber) (a : Step) (s : State) (k : Sink) (att : List ℕ) → Can p a s → HoldsAt p s → Alike p s k → Begun p s k att
    → BeginsUnder p n (join_label p (label a) att) → Found p n (after p a s) (sees p (label a) k) (join_label p (label a) att)
begun_by p good n a s k [] c f m b begins = fresh_step p good n a s k c f m begins
begun_by p good n a s k (v ∷ words) c f m b begins =
    goes_on p good n a s k (v ∷ words) c f begins (b n (begins_before p n (label a) v words begins))

abbrev AnyItem : Seen → Type 0
AnyItem i = Unit {0}

step_begun : (p : Contents) → IsRead p → (a : Step) (s : State) (k : Sink) (att : List ℕ) → Can p a s → HoldsAt p s → Alike p s k
    → OnLabel AnyItem (label a) → Begun p s k att → Begun p (after p a s) (sees p (label a) k) (join_label p (label a) att)
step_begun p good a s k att c f m ok b = λ n begins. begun_by p good n a s k att c f m b begins

-- ---- what holds behind a part of a trace

abbrev AllOn : (Seen → Type 0) → List Seen → Type 0
AllOn P [] = Unit {0}
AllOn P (i ∷ items) = P i × AllOn P items

-- a state behind some items of a trace, and the rest of it
record Reached (p : Contents) (I : State → Sink → List ℕ → Type 0) (k : Sink) (att : List ℕ) (more : List Seen) : Type 0 where
  steps : List Step
  state : State
  run : IsRun p steps state
  holds : HoldsAt p state
  alike : Alike p state k
  is : I state k att
  records : trace steps ≡ more

-- what each step keeps
abbrev Keeps : Contents → (State → Sink → List ℕ → Type 0) → (Seen → Type 0) → Type 0
Keeps p I P = (a : Step) (s : State) (k : Sink) (att : List ℕ) → Can p a s → HoldsAt p s → Alike p s k → OnLabel P (label a) → I s k att
    → I (after p a s) (sees p (label a) k) (join_label p (label a) att)

-- the first item is recorded by a later step, or by this one
reach_label : (p : Contents) (I : State → Sink → List ℕ → Type 0) (P : Seen → Type 0) (l : Option Seen) (i : Seen)
    (items more rest : List Seen) (k : Sink) (att : List ℕ) → P i
    → (OnLabel P l → (front : List Seen) → AllOn P front → rest ≡ front ++ more
    → Reached p I (sink_after p front (sees p l k)) (attempt_from p front (join_label p l att)) more)
    → AllOn P items → with_label l rest ≡ i ∷ (items ++ more)
    → Reached p I (sink_after p (i ∷ items) k) (attempt_from p (i ∷ items) att) more
reach_label p I P None i items more rest k att here next all e = next tt (i ∷ items) (here, all) e
reach_label p I P (Some j) i items more rest k att here next all e =
    let same : j ≡ i = cc in
    let left : rest ≡ items ++ more = cc in
    subst (λ x. Reached p I (sink_after p (x ∷ items) k) (attempt_from p (x ∷ items) att) more) same
    (next (subst P (sym same) here) items all left)

reach : (p : Contents) → IsRead p → (I : State → Sink → List ℕ → Type 0) (P : Seen → Type 0) → Keeps p I P
    → (steps : List Step) (s : State) (k : Sink) (att : List ℕ) (items more : List Seen) → IsRun p steps s → HoldsAt p s → Alike p s k
    → I s k att → AllOn P items → trace steps ≡ items ++ more → Reached p I (sink_after p items k) (attempt_from p items att) more
reach p good I P keeps steps s k att [] more h f m is all e =
    record { steps = steps; state = s; run = h; holds = f; alike = m; is = is; records = e }
reach p good I P keeps [] s k att (i ∷ items) more h f m is all e = absurd (cc e)
reach p good I P keeps (a ∷ steps) s k att (i ∷ items) more h f m is all e =
    reach_label p I P (label a) i items more (trace steps) k att all.0
    (λ ok front every left. reach p good I P keeps steps (after p a s) (sees p (label a) k) (join_label p (label a) att) front more h.1
    (step_holds p good a s h.0 f) (step_alike p good a s k h.0 f m) (keeps a s k att h.0 f m ok is) every left)
    all.1 e

any_all : (items : List Seen) → AllOn AnyItem items
any_all [] = tt
any_all (i ∷ items) = (tt, any_all items)

acks_all : (p : Contents) (n : UnitNumber) (items : List Seen) → AcksOnly p n items → AllOn (AcksItem p n) items
acks_all p n [] h = tt
acks_all p n (i ∷ items) h = (h.0, acks_all p n items h.1)

all_front : (P : Seen → Type 0) (xs ys : List Seen) → AllOn P (xs ++ ys) → AllOn P xs
all_front P [] ys h = tt
all_front P (x ∷ xs) ys h = (h.0, all_front P xs ys h.1)

all_back : (P : Seen → Type 0) (xs ys : List Seen) → AllOn P (xs ++ ys) → AllOn P ys
all_back P [] ys h = h
all_back P (x ∷ xs) ys h = all_back P xs ys h.1

attempt_append : (p : Contents) (xs ys : List Seen) (att : List ℕ)
    → attempt_from p (xs ++ ys) att ≡ attempt_from p ys (attempt_from p xs att)
attempt_append p [] ys att = refl
attempt_append p (x ∷ xs) ys att = attempt_append p xs ys (join_item p x att)

sink_append : (p : Contents) (xs ys : List Seen) (k : Sink) → sink_after p (xs ++ ys) k ≡ sink_after p ys (sink_after p xs k)
sink_append p [] ys k = refl
sink_append p (x ∷ xs) ys k = sink_append p xs ys (sees p (Some x) k)

-- a link data unit that is current, or was it up to the last request
since_carries : (p : Contents) (n : UnitNumber) (u : LduValue) (s : State) (k : Sink) (att : List ℕ)
    → Since p n u s k att → IsSubsequenceOf att (block_of p.codes u n.file n.ldu) × (k.count ≡ count_of u)
since_carries p n u s k att (inl h) = (words_all p n u s.source.phase s.to_source att h.2, h.3)
since_carries p n u s k att (inr h) = (h.2, h.3)

-- behind each part of the group
stage_carries : (p : Contents) → IsRead p → (n : UnitNumber) (u : LduValue) (k : Sink) (att : List ℕ) (ys more : List Seen)
    → AllOn (AcksItem p n) ys → BeginsUnder p n (attempt_from p ys att) → (r : Reached p (Stage p n u) k att (ys ++ more))
    → IsSubsequenceOf att (block_of p.codes u n.file n.ldu) × (k.count ≡ count_of u)
stage_carries p good n u k att ys more acks begins r = by r.is
  where
    keeps : Keeps p (λ s k att. Gone p n s att) (AcksItem p n)
    keeps a s k att c f m ok h = step_gone p good n a s att c f ok h

    by : Stage p n u r.state k att → IsSubsequenceOf att (block_of p.codes u n.file n.ldu) × (k.count ≡ count_of u)
    by (inl h) = since_carries p n u r.state k att h
    by (inr h) =
        absurd ((reach p good (λ s k att. Gone p n s att)
        (AcksItem p n) keeps r.steps r.state k att ys more r.run r.holds r.alike h acks r.records).is.2 begins)

group_carries : (p : Contents) → IsRead p → (n : UnitNumber) (u : LduValue) (before : List Seen) (group more : List Seen)
    → Reached p (λ s k att. Since p n u s k att) (sink_after p before sink_at_first) (attempt p before) (group ++ more)
    → BeginsUnder p n (attempt p (before ++ group)) → AcksOnly p n group → (xs ys : List Seen) → group ≡ xs ++ ys
    → IsAttemptAt p n u (latest p (before ++ xs))
group_carries p good n u before group more r begins acks xs ys e =
    let all = subst (AllOn (AcksItem p n)) e (acks_all p n group acks) in
    let records = r.records ∙ ap (λ l. l ++ more) e ∙ append_assoc xs ys more in
    let there =
    reach p good (Stage p n u) (AcksItem p n) (step_stage p good n u) r.steps r.state (sink_after p before sink_at_first)
    (attempt p before) xs (ys ++ more) r.run r.holds r.alike (inl r.is) (all_front (AcksItem p n) xs ys all) records in
    let whole : attempt p (before ++ group) ≡ attempt_from p ys (attempt_from p xs (attempt p before)) =
    attempt_append p before group [] ∙ ap (λ l. attempt_from p l (attempt p before)) e ∙ attempt_append p xs ys (attempt p before) in
    let now = stage_carries p good n u _ _ ys more (all_back (AcksItem p n) xs ys all) (subst (BeginsUnder p n) whole begins) there in
    record {
      asked = latest_count p (before ++ xs) ∙ ap (λ (q : Sink). q.count) (sink_append p before xs sink_at_first) ∙ now.1;
      words =
          subst (λ l. IsSubsequenceOf l (block_of p.codes u n.file n.ldu))
          (sym (latest_words p (before ++ xs) ∙ attempt_append p before xs [])) now.0;
    }

-- the attempts under one number are of one link data unit
pub one_unit : (p : Contents) → IsRead p → (n : UnitNumber) (before group : List Seen) → BeginsARun p (before ++ group)
    → IsGroup p n before group → IsOneUnit p n before group
one_unit p good n before group r is =
    let first =
    reach p good (Begun p) AnyItem (step_begun p good) r.steps (start p r.first) sink_at_first [] before (group ++ r.more) r.run
    (start_holds p r.first r.byte) (inl refl) (λ m h. absurd h) (any_all before) (r.records ∙ append_assoc before group r.more) in
    let begins = subst (BeginsUnder p n) (latest_words p before) is.begins in
    let again = subst (BeginsUnder p n) (latest_words p (before ++ group)) is.again in
    let found = first.is n begins in
    let there : Reached p (λ s k att.
    Since p n found.unit s k att) (sink_after p before sink_at_first) (attempt p before) (group ++ r.more) =
    record {
      steps = first.steps;
      state = first.state;
      run = first.run;
      holds = first.holds;
      alike = first.alike;
      is = found.since;
      records = first.records;
    } in
    record { unit = found.unit; is = found.is; carried = group_carries p good n found.unit before group r.more there again is.acks }

-- as many of a list's items are all of them
pub sub_all : {X : Type 0} (xs ys : List X) → length xs ≡ length ys → IsSubsequenceOf xs ys → xs ≡ ys
sub_all xs [] n h = h
sub_all xs (y ∷ ys) n (inl h) = absurd (omega (arith, sub_length xs ys h))
sub_all {X} xs (y ∷ ys) n (inr (zs, e, h)) =
    let len : length zs ≡ length ys = omega (arith, ap length e) in e ∙ ap (λ (l : List X). y ∷ l) (sub_all zs ys len h)

-- the attempts are part of each whole one
pub parts_of_whole : (p : Contents) → IsRead p → (n : UnitNumber) (before group : List Seen) → BeginsARun p (before ++ group)
    → IsGroup p n before group → ArePartsOfWhole p before group
parts_of_whole p good n before group r is = λ xs xs' ys ys' ex ey whole.
    let one = one_unit p good n before group r is in
    let x = one.carried xs xs' ex in
    let y = one.carried ys ys' ey in
    let all =
    sub_all (latest p (before ++ ys)).words (block_of p.codes one.unit n.file n.ldu)
    (whole ∙ y.asked ∙ sym (block_length p.codes one.unit n)) y.words in
    record { asked = x.asked ∙ sym y.asked; words = subst (λ l. IsSubsequenceOf (latest p (before ++ xs)).words l) (sym all) x.words }

-- ---- numbers go forward

abbrev Forward : UnitNumber → UnitNumber → Type 0
Forward n m = (m ≡ n) ⊎ IsFurther n m

further : (n : UnitNumber) (s : Source) → IsPast n s → IsFurther n s.number
further n s h = by h.0
  where
    by : Past (Some (numbered n)) s.number s.give_ups → IsFurther n s.number
    by (inl (e, l)) = inl (e, omega arith)
    by (inr (d, a, b, e)) = let few = h.1 in inr (d, a, omega arith, e)

stage_forward : (p : Contents) (n : UnitNumber) (u : LduValue) (s : State) (k : Sink) (att : List ℕ)
    → Stage p n u s k att → Forward n s.source.number
stage_forward p n u s k att (inl (inl h)) = inl h.0
stage_forward p n u s k att (inl (inr h)) = inr (further n s.source h.0)
stage_forward p n u s k att (inr h) = inr (further n s.source h.0)

abbrev SaysForward : Contents → UnitNumber → List ℕ → Type 0
SaysForward p n att = (m : UnitNumber) → BeginsUnder p m att → Forward n m

-- an attempt that begins at this step
fresh_forward : (p : Contents) → IsRead p → (n m : UnitNumber) (a : Step) (s : State) → Can p a s → HoldsAt p s → Forward n s.source.number
    → BeginsUnder p m (join_label p (label a) []) → Forward n m
fresh_forward p good n m (Sent i) s c f is begins =
    let says = sends p good s.source i.word f.file f.current c.1 in
    let begun = started p m i.word says.said says.says (subst (BeginsUnder p m) (joins_on p i bus.A says.said [] c.0 says.says) begins) in
    let next = subst (λ y. next_message s.source.number s.source.current s.source.phase ≡ Some y) begun.3 says.next in
    let number : s.source.number ≡ m =
    sym (start_number s.source.number s.source.current s.source.phase begun.0 begun.1 begun.2 next) ∙ begun.4 in
    subst (Forward n) number is
fresh_forward p good n m (Answered i) s c f is begins =
    let r = owed_form p s i c in
    absurd (none_begins p m (join_item p i []) (joins_on p i bus.B r.said [] c.0 r.is ∙ answer_none i.word r.said) begins)
fresh_forward p good n m (FreeSeen i) s c f is begins =
    absurd (none_begins p m (join_item p i []) (free_joins p i [] (good.free i.bus i.word c)) begins)
fresh_forward p good n m _ s c f is begins = absurd begins

forward_by : (p : Contents) → IsRead p → (n m : UnitNumber) (a : Step) (s : State) (att : List ℕ) → Can p a s → HoldsAt p s
    → Forward n s.source.number → SaysForward p n att → BeginsUnder p m (join_label p (label a) att) → Forward n m
forward_by p good n m a s [] c f is says begins = fresh_forward p good n m a s c f is begins
forward_by p good n m a s (v ∷ words) c f is says begins = says m (begins_before p m (label a) v words begins)

abbrev ForwardStage : Contents → UnitNumber → LduValue → State → Sink → List ℕ → Type 0
ForwardStage p n u s k att = Stage p n u s k att × SaysForward p n att

step_forward : (p : Contents) → IsRead p → (n : UnitNumber) (u : LduValue) → Keeps p (ForwardStage p n u) (AcksItem p n)
step_forward p good n u a s k att c f m ok h = (
  step_stage p good n u a s k att c f m ok h.0,
  λ q begins. forward_by p good n q a s att c f (stage_forward p n u s k att h.0) h.1 begins,
)

one_number : (p : Contents) (n m : UnitNumber) (att : List ℕ) → BeginsUnder p n att → BeginsUnder p m att → m ≡ n
one_number p n m [] h k = absurd h
one_number p n m (w ∷ att) h k = by (form_of p.codes bus.A w) h k
  where
    by : (o : Option Form) → IsStartOf n o → IsStartOf m o → m ≡ n
    by (Some (form.Sot g f l)) h k = sym k ∙ h
    by _ h k = absurd h

-- a later attempt is under the same number or a further one
pub goes_forward : (p : Contents) → IsRead p → (n m : UnitNumber) (before group : List Seen) → BeginsARun p (before ++ group)
    → HasNumber p n (latest p before) → HasNumber p m (latest p (before ++ group)) → AcksOnly p n group → Forward n m
goes_forward p good n m before group r has has_again acks =
    let begins = subst (BeginsUnder p n) (latest_words p before) has in
    let again = subst (BeginsUnder p m) (latest_words p (before ++ group)) has_again in
    let first =
    reach p good (Begun p) AnyItem (step_begun p good) r.steps (start p r.first) sink_at_first [] before (group ++ r.more) r.run
    (start_holds p r.first r.byte) (inl refl) (λ m h. absurd h) (any_all before) (r.records ∙ append_assoc before group r.more) in
    let found = first.is n begins in
    let there =
    reach p good (ForwardStage p n found.unit) (AcksItem p n) (step_forward p good n found.unit) first.steps first.state
    (sink_after p before sink_at_first) (attempt p before) group r.more first.run first.holds first.alike
    (inl found.since, λ q h. inl (one_number p n q (attempt p before) begins h)) (acks_all p n group acks) first.records in
    there.is.1 m (subst (BeginsUnder p m) (attempt_append p before group []) again)
