-- Words that the observer allows, in attempts that can be assigned, are recorded by a run: its steps are written down.
use Rattle.std.proofs.Common.{◌≡◌, ◌↔◌, ◌⊎◌, ℕ, ◌+◌, ◌-◌, ◌%◌, ◌≤◌, Bool, true, false, cond, List, [], ◌∷◌, ◌++◌, Option, Some, None, refl, sym, ap, ◌∙◌, subst, inl, inr, arith, append_assoc, append-nil}
use Rattle.a429_word.specs.declared.bus.Bus.{Bus}
use Rattle.a429_word.specs.declared.bus.Bus.TheVariants as bus
use Rattle.a429_profile.specs.Profile.{Contents, IsProfile}
use Rattle.a429_ldu.specs.declared.forms.Form.{Form}
use Rattle.a429_ldu.specs.declared.forms.Form.TheVariants as form
use Rattle.a429_ldu.specs.Form.{form_of}
use Rattle.a429_ldu.specs.Ldu.{block_of}
use Rattle.a429_link.specs.declared.seen.Seen.{Seen}
use Rattle.a429_link.specs.declared.state.SourceState.TheVariants.{Idle}
use Rattle.a429_link.specs.declared.step.Step.TheVariants.{FreeSeen}
use Rattle.a429_link.specs.Number.{first_number}
use Rattle.a429_link.specs.Observer.{Allows, AllowsForm, AreAllowed, HasGrant, Observer, at_first, sees_form}
use Rattle.a429_link.specs.Observer.{sees as observes}
use Rattle.a429_link.specs.Run.{BeginsARun, IsSubsequenceOf}
use Rattle.a429_link.specs.Sink.{end_word, Block, Granted, InBlock, MayAnswer, Number, OwesAck, OwesClear, OwesNak, Quiet, Sink, SinkPhase, at_end, at_part, at_start, is_good}
use Rattle.a429_link.specs.Source.{Source}
use Rattle.a429_link.specs.State.{State}
use Rattle.a429_link.specs.Attempt.{Attempt, asks, attempts_from, fresh, goes_on_to}
use Rattle.a429_link.specs.Assignment.{Assigned, GoOnAssigned, IsAssignable}
use Rattle.a429_link.proofs.Message.{Eot, IsRead, Message, Rts, Sot, no_part}
use Rattle.a429_link.proofs.StateConfigs.{may_answer, source_at}
use Rattle.a429_link.proofs.SinkFromTrace.{free_sees}
use Rattle.a429_link.proofs.RunTraces.{AllAllowed, see_item, trace_allowed}
use Rattle.a429_link.proofs.RunAssigned.{run_assignable}
use Rattle.a429_link.proofs.ObserverRefuses.{allows_same, seeing, sees_same}
use Rattle.a429_link.proofs.StateHolds.{HoldsAt, start_holds}
use Rattle.a429_link.specs.Trace.{sink_at_first, sink_sees}
use Rattle.a429_link.proofs.AssignedSteps.{at_first_one, Way, way_join, way_holds, at, on, FirstOf, Place, Move, move_to, move_request, move_clear, move_nak, move_ack, IsBlockForm, move_block}

-- ---- the words that an attempt has yet to record

abbrev NotClear : SinkPhase → Type 0
NotClear OwesClear = ⊥
NotClear _ = Unit {0}

not_owed : (count n : ℕ) (kp : SinkPhase) → NotClear kp → MayAnswer count kp (form.Cts n) → ⊥
not_owed count n Quiet h m = m
not_owed count n OwesClear h m = h
not_owed count n Granted h m = m
not_owed count n (InBlock b) h m = m
not_owed count n (OwesAck b f) h m = m
not_owed count n OwesNak h m = m

clear_start : (b : Block) (kp : SinkPhase) → NotClear kp → NotClear (at_start b kp)
clear_start b Granted h = tt
clear_start b (InBlock c) h = tt
clear_start b Quiet h = tt
clear_start b OwesClear h = h
clear_start b (OwesAck c f) h = tt
clear_start b OwesNak h = tt

clear_part : (w : ℕ) (kp : SinkPhase) → NotClear kp → NotClear (at_part w kp)
clear_part w Granted h = tt
clear_part w (InBlock c) h = tt
clear_part w Quiet h = tt
clear_part w OwesClear h = h
clear_part w (OwesAck c f) h = tt
clear_part w OwesNak h = tt

clear_end : (p : Contents) (last : Option Number) (count flags check : ℕ) (kp : SinkPhase)
    → NotClear kp → NotClear (at_end p last count (end_word flags check) kp)
clear_end p last count flags check Granted h = tt
clear_end p last count flags check (InBlock b) h = by (is_good p last count b check)
  where
    by : (t : Bool) → NotClear (cond t (OwesAck b flags) OwesNak)
    by true = tt
    by false = tt
clear_end p last count flags check Quiet h = tt
clear_end p last count flags check OwesClear h = h
clear_end p last count flags check (OwesAck b f) h = tt
clear_end p last count flags check OwesNak h = tt

clear_seen : (p : Contents) (b : Bus) (w : ℕ) (x : Option Form) (o : Observer)
    → asks b x ≡ None → NotClear o.phase → NotClear (sees_form p b w x o).phase
clear_seen p bus.A w None o e h = h
clear_seen p bus.A w (Some (form.Rts n)) o e h = absurd (cc e)
clear_seen p bus.A w (Some (form.Cts n)) o e h = h
clear_seen p bus.A w (Some (form.Ack f l)) o e h = h
clear_seen p bus.A w (Some (form.Nak n)) o e h = h
clear_seen p bus.A w (Some (form.Sot g f l)) o e h = clear_start (record { gfi = g; file = f; ldu = l; words = [] }) o.phase h
clear_seen p bus.A w (Some (form.Part s)) o e h = clear_part w o.phase h
clear_seen p bus.A w (Some (form.Eot f c)) o e h = clear_end p o.last o.count f c o.phase h
clear_seen p bus.B w None o e h = h
clear_seen p bus.B w (Some (form.Rts n)) o e h = h
clear_seen p bus.B w (Some (form.Cts n)) o e h = tt
clear_seen p bus.B w (Some (form.Ack f l)) o e h = tt
clear_seen p bus.B w (Some (form.Nak n)) o e h = tt
clear_seen p bus.B w (Some (form.Sot g f l)) o e h = h
clear_seen p bus.B w (Some (form.Part s)) o e h = h
clear_seen p bus.B w (Some (form.Eot f c)) o e h = h

-- words that follow these in the block
abbrev Rest : Contents → Assigned → List ℕ → Type 0
Rest p t words = (rest : List ℕ) × IsSubsequenceOf (words ++ rest) (block_of p.codes t.unit t.number.file t.number.ldu)

rest_push : (p : Contents) (t : Assigned) (words : List ℕ) (w : ℕ) → Rest p t (words ++ w ∷ []) → Rest p t words
rest_push p t words w (rest, h) =
    (w ∷ rest, subst (λ l. IsSubsequenceOf l (block_of p.codes t.unit t.number.file t.number.ldu)) (append_assoc words (w ∷ []) rest) h)

rest_none : (p : Contents) (t : Assigned) (words : List ℕ)
    → IsSubsequenceOf words (block_of p.codes t.unit t.number.file t.number.ldu) → Rest p t words
rest_none p t words h = ([], subst (λ l. IsSubsequenceOf l (block_of p.codes t.unit t.number.file t.number.ldu)) (sym (append-nil words)) h)

rest_by : (p : Contents) (t : Assigned) (b : Bus) (w : ℕ) (x : Option Form) (items : List Seen) (o : Observer) (a : Attempt)
    (units : List Assigned)
    → ((x ≡ None) ⊎ AllowsForm o b x) → NotClear o.phase
    → ((c : Attempt) → NotClear (sees_form p b w x o).phase → GoOnAssigned p (Some t) (attempts_from p c items) units → Rest p t c.words)
    → GoOnAssigned p (Some t) (goes_on_to (on b w) x a (asks b x) (λ c. attempts_from p c items)) units → Rest p t a.words
rest_by p t bus.A w (Some (form.Rts n)) items o a units al h rec goes = rest_none p t a.words goes.0.0.words
rest_by p t bus.A w None items o a units al h rec goes = rec a (clear_seen p bus.A w None o refl h) goes
rest_by p t bus.A w (Some (form.Cts n)) items o a units al h rec goes = rec a h goes
rest_by p t bus.A w (Some (form.Ack f l)) items o a units al h rec goes = rec a h goes
rest_by p t bus.A w (Some (form.Nak n)) items o a units al h rec goes = rec a h goes
rest_by p t bus.A w (Some (form.Sot g f l)) items o a units al h rec goes =
    rest_push p t a.words w (rec (record a { words = a.words ++ w ∷ [] }) (clear_seen p bus.A w (Some (form.Sot g f l)) o refl h) goes)
rest_by p t bus.A w (Some (form.Part s)) items o a units al h rec goes =
    rest_push p t a.words w (rec (record a { words = a.words ++ w ∷ [] }) (clear_seen p bus.A w (Some (form.Part s)) o refl h) goes)
rest_by p t bus.A w (Some (form.Eot f c)) items o a units al h rec goes =
    rest_push p t a.words w (rec (record a { words = a.words ++ w ∷ [] }) (clear_seen p bus.A w (Some (form.Eot f c)) o refl h) goes)
rest_by p t bus.B w None items o a units al h rec goes = rec a h goes
rest_by p t bus.B w (Some (form.Cts n)) items o a units (inl e) h rec goes = absurd (cc e)
rest_by p t bus.B w (Some (form.Cts n)) items o a units (inr m) h rec goes = absurd (not_owed o.count n o.phase h m)
rest_by p t bus.B w (Some (form.Rts n)) items o a units al h rec goes = rec a h goes
rest_by p t bus.B w (Some (form.Ack f l)) items o a units al h rec goes =
    rec (record a { acked = Some (record { file = f; ldu = l }) }) tt goes
rest_by p t bus.B w (Some (form.Nak n)) items o a units al h rec goes = rec a tt goes
rest_by p t bus.B w (Some (form.Sot g f l)) items o a units al h rec goes = rec a h goes
rest_by p t bus.B w (Some (form.Part s)) items o a units al h rec goes = rec a h goes
rest_by p t bus.B w (Some (form.Eot f c)) items o a units al h rec goes = rec a h goes

free_or : (p : Contents) → IsRead p → (o : Observer) (b : Bus) (w : ℕ) → Allows p o (on b w)
    → (form_of p.codes b w ≡ None) ⊎ AllowsForm o b (form_of p.codes b w)
free_or p good o b w (inl e) = inl (good.free b w e)
free_or p good o b w (inr a) = inr a

rest_assigned : (p : Contents) → IsRead p → (t : Assigned) (items : List Seen) (o : Observer) (a : Attempt) (units : List Assigned)
    → NotClear o.phase → AreAllowed p o items → GoOnAssigned p (Some t) (attempts_from p a items) units → Rest p t a.words
rest_assigned p good t [] o a units h al goes = rest_none p t a.words goes.0.0.words
rest_assigned p good t (i ∷ items) o a units h al goes =
    rest_by p t i.bus i.word (form_of p.codes i.bus i.word) items o a units (free_or p good o i.bus i.word al.0) h
    (λ c q g. rest_assigned p good t items (observes p i o) c units q al.1 g) goes

-- ---- the walk

not_begun : (p : Contents) (a : Attempt) (q : Source) (vs : List ℕ) (k : Sink) (units : List Assigned)
    → Place p None a q vs k units → HasGrant k.phase → ⊥
not_begun p a q vs k units (at_first_one f first) g = g

grant_clear : (kp : SinkPhase) → HasGrant kp → NotClear kp
grant_clear Granted g = tt
grant_clear (InBlock b) g = tt
grant_clear _ g = absurd g

block_item : (p : Contents)
    → IsRead p → (w : ℕ) (x : Form) (items : List Seen) (now : Option Assigned) (a : Attempt) (q : Source) (vs : List ℕ) (k : Sink)
    (seen : List Message) (units : List Assigned) → form_of p.codes bus.A w ≡ Some x → IsBlockForm x → asks bus.A (Some x) ≡ None
    → HasGrant k.phase → AreAllowed p (observes p (on bus.A w) (seeing k seen)) items → HoldsAt p (at q k vs) → Place p now a q vs k units
    → GoOnAssigned p now (attempts_from p (record a { words = a.words ++ w ∷ [] }) items) units → Move p (on bus.A w) items (at q k vs) k
block_item p good w x items None a q vs k seen units e b n g al holds h goes = absurd (not_begun p a q vs k units h g)
block_item p good w x items (Some t) a q vs k seen units e b n g al holds h goes =
    let clear =
    subst (λ y. NotClear (sees_form p bus.A w y (seeing k seen)).phase) (sym e)
    (clear_seen p bus.A w (Some x) (seeing k seen) n (grant_clear k.phase g)) in
    let rest =
    rest_assigned p good t items (observes p (on bus.A w) (seeing k seen)) (record a { words = a.words ++ w ∷ [] }) units clear al goes in
    let block = block_of p.codes t.unit t.number.file t.number.ldu in
    move_block p good w x items t a q vs k units rest.0 e b g holds
    (subst (λ l. IsSubsequenceOf l block) (append_assoc a.words (w ∷ []) rest.0) rest.1) h goes

move_form : (p : Contents)
    → IsProfile p → IsRead p → (b : Bus) (w : ℕ) (x : Option Form) (items : List Seen) (now : Option Assigned) (a : Attempt) (q : Source)
    (vs : List ℕ) (k : Sink) (seen : List Message) (units : List Assigned) → form_of p.codes b w ≡ x → AllowsForm (seeing k seen) b x
    → AreAllowed p (observes p (on b w) (seeing k seen)) items → HoldsAt p (at q k vs) → Place p now a q vs k units
    → GoOnAssigned p now (goes_on_to (on b w) x a (asks b x) (λ c. attempts_from p c items)) units → Move p (on b w) items (at q k vs) k
move_form p is good b w None items now a q vs k seen units e m al holds h goes = absurd m
move_form p is good bus.A w (Some (form.Rts n)) items now a q vs k seen units e m al holds h goes =
    move_request p is w n items now a q vs k units e h goes.1
move_form p is good bus.A w (Some (form.Sot g f l)) items now a q vs k seen units e m al holds h goes =
    block_item p good w (form.Sot g f l) items now a q vs k seen units e tt refl m.0 al holds h goes
move_form p is good bus.A w (Some (form.Part s)) items now a q vs k seen units e m al holds h goes =
    block_item p good w (form.Part s) items now a q vs k seen units e tt refl m.0 al holds h goes
move_form p is good bus.A w (Some (form.Eot f c)) items now a q vs k seen units e m al holds h goes =
    block_item p good w (form.Eot f c) items now a q vs k seen units e tt refl m al holds h goes
move_form p is good bus.A w (Some _) items now a q vs k seen units e m al holds h goes = absurd m
move_form p is good bus.B w (Some (form.Cts n)) items now a q vs k seen units e m al holds h goes =
    move_clear p w n items now a q vs k units e m h goes
move_form p is good bus.B w (Some (form.Ack f l)) items now a q vs k seen units e m al holds h goes =
    move_ack p w f l items now a q vs k units e m holds h goes
move_form p is good bus.B w (Some (form.Nak n)) items now a q vs k seen units e m al holds h goes =
    move_nak p w n items now a q vs k units e m h goes
move_form p is good bus.B w (Some (form.Rts n)) items now a q vs k seen units e m al holds h goes =
    absurd (may_answer k.count k.phase (Rts n) m)
move_form p is good bus.B w (Some (form.Sot g f l)) items now a q vs k seen units e m al holds h goes =
    absurd (may_answer k.count k.phase (Sot g f l) m)
move_form p is good bus.B w (Some (form.Part s)) items now a q vs k seen units e m al holds h goes = absurd (no_part k.count k.phase s m)
move_form p is good bus.B w (Some (form.Eot f c)) items now a q vs k seen units e m al holds h goes =
    absurd (may_answer k.count k.phase (Eot f c) m)

free_goes : (p : Contents) (b : Bus) (w : ℕ) (x : Option Form) (items : List Seen) (now : Option Assigned) (a : Attempt)
    (units : List Assigned)
    → x ≡ None → GoOnAssigned p now (goes_on_to (on b w) x a (asks b x) (λ c. attempts_from p c items)) units
    → GoOnAssigned p now (attempts_from p a items) units
free_goes p b w x items now a units e goes =
    none b (subst (λ y. GoOnAssigned p now (goes_on_to (on b w) y a (asks b y) (λ c. attempts_from p c items)) units) e goes)
  where
    none : (b : Bus) → GoOnAssigned p now (goes_on_to (on b w) None a (asks b None) (λ c. attempts_from p c items)) units
        → GoOnAssigned p now (attempts_from p a items) units
    none bus.A h = h
    none bus.B h = h

move_item : (p : Contents) → IsProfile p → IsRead p → (b : Bus) (w : ℕ) (items : List Seen) (now : Option Assigned) (a : Attempt)
    (q : Source) (vs : List ℕ) (k : Sink) (seen : List Message) (units : List Assigned)
    → Allows p (seeing k seen) (on b w) → AreAllowed p (observes p (on b w) (seeing k seen)) items → HoldsAt p (at q k vs)
    → Place p now a q vs k units → GoOnAssigned p now (attempts_from p a (on b w ∷ items)) units → Move p (on b w) items (at q k vs) k
move_item p is good b w items now a q vs k seen units (inl e) al holds h goes =
    move_to p (on b w) items (at q k vs) k k now a units q vs (free_sees p good b w k e)
    (record { steps = FreeSeen (on b w) ∷ []; run = (e, tt); ends = refl; records = refl }) h
    (free_goes p b w (form_of p.codes b w) items now a units (good.free b w e) goes)
move_item p is good b w items now a q vs k seen units (inr m) al holds h goes =
    move_form p is good b w (form_of p.codes b w) items now a q vs k seen units refl m al holds h goes

pub record Replays (p : Contents) (s : State) (items : List Seen) : Type 0 where
  pub end : State
  pub way : Way p items s end

pub replay : (p : Contents) → IsProfile p → IsRead p → (items : List Seen) (o : Observer) (k : Sink) (seen : List Message)
    (now : Option Assigned) (a : Attempt) (q : Source) (vs : List ℕ) (units : List Assigned) → o ≡ seeing k seen → AreAllowed p o items
    → HoldsAt p (at q k vs) → Place p now a q vs k units → GoOnAssigned p now (attempts_from p a items) units → Replays p (at q k vs) items
replay p is good [] o k seen now a q vs units e al holds h goes =
    record { end = at q k vs; way = record { steps = []; run = tt; ends = refl; records = refl } }
replay p is good (i ∷ items) o k seen now a q vs units e al holds h goes =
    let allowed = subst (λ (z : Observer). Allows p z i) e al.0 in
    let later = subst (λ (z : Observer). AreAllowed p (observes p i z) items) e al.1 in
    let move = move_item p is good i.bus i.word items now a q vs k seen units allowed later holds h goes in
    let held = way_holds p good (i ∷ []) _ _ move.way holds in
    let rest =
    replay p is good items (observes p i o) (sink_sees p i.bus i.word k) (see_item p i seen) move.now move.attempt move.source move.answers
    move.units (ap (observes p i) e ∙ sees_same p i k seen) al.1 held move.place move.goes in
    record { end = rest.end; way = way_join p (i ∷ []) items _ _ _ move.way rest.way }

-- the number of the first file, so that as many files are given up before the first attempt as its assignment says
record Begins (units : List Assigned) : Type 0 where
  file : ℕ
  byte : file ≤ 255
  first : FirstOf file units

begins : (units : List Assigned) → Begins units
begins [] = record { file = 0; byte = omega arith; first = tt }
begins (t ∷ units) = record { file = (t.number.file + 256 - t.give_ups) % 256; byte = omega arith; first = refl }

-- words that the observer allows, in attempts that can be assigned, are recorded by a run
assigned_is_run : (p : Contents)
    → IsProfile p → IsRead p → (items : List Seen) → AreAllowed p at_first items → IsAssignable p items → BeginsARun p items
assigned_is_run p is good items allowed may =
    let b = begins may.units in
    let r =
    replay p is good items at_first sink_at_first [] None (fresh 0) (source_at 0 (first_number p.codes b.file) None Idle) [] may.units refl
    allowed (start_holds p b.file b.byte) (at_first_one b.file b.first) may.are in
    record {
      first = b.file;
      byte = b.byte;
      steps = r.way.steps;
      run = r.way.run;
      more = [];
      records = r.way.records ∙ sym (append-nil items);
    }

-- each word that a run records is allowed after those before it
pub all_allowed : (p : Contents) (items more : List Seen) (k : Sink) (seen : List Message) (o : Observer)
    → o ≡ seeing k seen → AllAllowed p (items ++ more) k seen → AreAllowed p o items
all_allowed p [] more k seen o e h = tt
all_allowed p (i ∷ items) more k seen o e h = (
  subst (λ q. Allows p q i) (sym e) (allows_same p k seen i h.0),
  all_allowed p items more (sink_sees p i.bus i.word k) (see_item p i seen) (observes p i o)
      (ap (observes p i) e ∙ sees_same p i k seen) h.1,
)

-- these are exactly what runs record
pub run_is_assigned : (p : Contents)
    → IsProfile p → IsRead p → (items : List Seen) → BeginsARun p items ↔ (AreAllowed p at_first items × IsAssignable p items)
run_is_assigned p is good items = (
  λ r. (
    all_allowed p items r.more sink_at_first [] at_first refl
        (subst (λ t. AllAllowed p t sink_at_first []) r.records (trace_allowed p good r.first r.byte r.steps r.run)),
    run_assignable p good items r,
  ),
  λ h. assigned_is_run p is good items h.0 h.1,
)
