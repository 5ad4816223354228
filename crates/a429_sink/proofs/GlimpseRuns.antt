-- What an observer that does not know what came before refuses, no run records.
use Rattle.std.proofs.Common.{◌≡◌, ℕ, zero, suc, Bool, true, false, List, [], ◌∷◌, ◌++◌, take, Option, Some, None, slice_get, refl, sym, subst, inl, inr}
use Rattle.a429_word.specs.declared.bus.Bus.{Bus}
use Rattle.a429_word.specs.declared.bus.Bus.TheVariants as bus
use Rattle.a429_profile.specs.Profile.{Contents}
use Rattle.a429_ldu.specs.Form.{form_of}
use Rattle.a429_link.specs.declared.file.FileBytes.{FileBytes}
use Rattle.a429_link.specs.declared.seen.Seen.{Seen}
use Rattle.a429_link.specs.declared.step.Step.{Step}
use Rattle.a429_link.specs.declared.step.Step.TheVariants.{Answered, FreeSeen, GiveUp, Load, LoseAnswer, Sent, SentLost, Silent, SinkTakes, TakeAnswer, TimeOut}
use Rattle.a429_link.specs.Implied.{sink_sees_form}
use Rattle.a429_link.specs.Observer.{Observer, sees_form}
use Rattle.a429_link.specs.Run.{IsPartOfARun, IsRun, offers, settles, trace, with_label}
use Rattle.a429_link.specs.Sink.{MayAnswerForm, Received, Sink, nothing_received}
use Rattle.a429_link.specs.State.{State, start}
use Rattle.a429_link.specs.Step.{Can, after, label}
use Rattle.a429_link.specs.Trace.{sink_at_first, sink_sees}
use Rattle.a429_link.proofs.Message.{IsRead, Message}
use Rattle.a429_link.proofs.ObserverRefuses.{allows_same, sees_on_as, sees_same, seeing}
use Rattle.a429_link.proofs.RunTraces.{AllAllowed, see_item, trace_allowed, see_label}
use Rattle.a429_link.proofs.SinkFromTrace.{sees}
use Rattle.a429_link.proofs.StateConfigs.{may_owes}
use Rattle.a429_link.proofs.StateHolds.{owed_form}
use Rattle.a429_sink.specs.Anywhere.{Glimpse, GlimpseAllows, GlimpseAllowsNext, IsRefusedAnywhere, glimpse_at_first, glimpsed, glimpses, glimpses_form}
use Rattle.a429_sink.proofs.AnywhereRuns.{Going, JoinsBy, joins_by, next_part, owing_sink, start_going, step_going}
use Rattle.a429_sink.proofs.GlimpseFacts.{GlimpseOf, answer_glimpsed, glimpse_allows, word_glimpsed}

abbrev pub glimpses_label : Contents → Option Seen → Glimpse → Glimpse
glimpses_label p None g = g
glimpses_label p (Some i) g = glimpses p i g

-- a word of either bus, by its form
form_glimpsed : (p : Contents) (b : Bus) (w : ℕ) (g : Glimpse) (k : Sink) (seen : List Message)
    → GlimpseOf (glimpses_form p b w (form_of p.codes b w) g) (sink_sees_form p b w (form_of p.codes b w) k)
    (sees_form p b w (form_of p.codes b w) (seeing k seen))
    → GlimpseOf (glimpses p (record { bus = b; word = w }) g) (sink_sees p b w k)
    (seeing (sink_sees p b w k) (see_item p (record { bus = b; word = w }) seen))
form_glimpsed p b w g k seen h =
    subst (λ r. GlimpseOf (glimpses p (record { bus = b; word = w }) g) (sink_sees p b w k) r)
    (sees_same p (record { bus = b; word = w }) k seen)
    (subst (λ q. GlimpseOf (glimpses p (record { bus = b; word = w }) g) q (sees_form p b w (form_of p.codes b w) (seeing k seen)))
    (sym (sees_on_as p b w k)) h)

pub step_glimpsed : (p : Contents) → IsRead p → (a : Step) (s : State) (k : Sink) (seen : List Message) (g : Glimpse) (o : Received)
    (fs : List FileBytes) → Can p a s → Going p s k o fs → GlimpseOf g k (seeing k seen)
    → GlimpseOf (glimpses_label p (label a) g) (sees p (label a) k) (seeing (sees p (label a) k) (see_label p (label a) seen))
step_glimpsed p good (Sent i) s k seen g o fs c go h =
    subst (λ b. GlimpseOf (glimpses p (record { bus = b; word = i.word }) g) (sink_sees p b i.word k)
    (seeing (sink_sees p b i.word k) (see_item p (record { bus = b; word = i.word }) seen)))
    (sym c.0)
    (form_glimpsed p bus.A i.word g k seen
    (word_glimpsed p i.word (form_of p.codes bus.A i.word) g.known g.observer k (seeing k seen).begun (seeing k seen).parts h))
step_glimpsed p good (Answered i) s k seen g o fs c go h =
    let r = owed_form p s i c in
    let same = owing_sink p s k (may_owes s.sink.count s.sink.phase r.said r.owed) go.books.holds go.alike in
    let x = form_of p.codes bus.B i.word in
    let may = subst (λ (q : Sink). MayAnswerForm q.count q.phase x) same c.1 in
    let joins = subst (λ q. JoinsBy p.codes x q) same (joins_by p s o fs x c.1 go.books.holds go.comes go.books.crosses go.shelf) in
    subst (λ b. GlimpseOf (glimpses p (record { bus = b; word = i.word }) g) (sink_sees p b i.word k)
    (seeing (sink_sees p b i.word k) (see_item p (record { bus = b; word = i.word }) seen)))
    (sym c.0)
    (form_glimpsed p bus.B i.word g k seen
    (answer_glimpsed p i.word x g.known g.observer k (seeing k seen).begun (seeing k seen).parts may joins h))
step_glimpsed p good (FreeSeen i) s k seen g o fs c go h =
    let none = good.free i.bus i.word c in
    form_glimpsed p i.bus i.word g k seen
    (subst (λ x.
    GlimpseOf (glimpses_form p i.bus i.word x g) (sink_sees_form p i.bus i.word x k) (sees_form p i.bus i.word x (seeing k seen)))
    (sym none) (by i.bus))
  where
    by : (b : Bus)
        → GlimpseOf (glimpses_form p b i.word None g) (sink_sees_form p b i.word None k) (sees_form p b i.word None (seeing k seen))
    by bus.A = word_glimpsed p i.word None g.known g.observer k (seeing k seen).begun (seeing k seen).parts h
    by bus.B = at g.known g.observer h
      where
        at : (known : Bool) (o : Observer) → GlimpseOf (record { known = known; observer = o }) k (seeing k seen)
            → GlimpseOf (glimpses_form p bus.B i.word None (record { known = known; observer = o })) k (seeing k seen)
        at true o h = h
        at false o h = h
step_glimpsed p good (Load u) s k seen g o fs c go h = h
step_glimpsed p good SentLost s k seen g o fs c go h = h
step_glimpsed p good TimeOut s k seen g o fs c go h = h
step_glimpsed p good TakeAnswer s k seen g o fs c go h = h
step_glimpsed p good LoseAnswer s k seen g o fs c go h = h
step_glimpsed p good SinkTakes s k seen g o fs c go h = h
step_glimpsed p good Silent s k seen g o fs c go h = h
step_glimpsed p good GiveUp s k seen g o fs c go h = h

-- ---- runs

-- each of these words is allowed after those before it
abbrev AreGlimpseAllowed : Contents → Glimpse → List Seen → Type 0
AreGlimpseAllowed p g [] = Unit {0}
AreGlimpseAllowed p g (i ∷ items) = GlimpseAllows p g i × AreGlimpseAllowed p (glimpses p i g) items

rest_allowed : (p : Contents) (l : Option Seen) (items : List Seen) (k : Sink) (seen : List Message)
    → AllAllowed p (with_label l items) k seen → AllAllowed p items (sees p l k) (see_label p l seen)
rest_allowed p None items k seen h = h
rest_allowed p (Some i) items k seen h = h.1

with_first : (p : Contents) (l : Option Seen) (items : List Seen) (k : Sink) (seen : List Message) (g : Glimpse)
    → GlimpseOf g k (seeing k seen) → AllAllowed p (with_label l items) k seen → AreGlimpseAllowed p (glimpses_label p l g) items
    → AreGlimpseAllowed p g (with_label l items)
with_first p None items k seen g h a more = more
with_first p (Some i) items k seen g h a more =
    (glimpse_allows p g.known g.observer k (seeing k seen) i refl h (allows_same p k seen i a.0), more)

run_glimpsed : (p : Contents) → IsRead p
    → (acts : List Step) (s : State) (k : Sink) (seen : List Message) (g : Glimpse) (o : Received) (fs : List FileBytes) → IsRun p acts s
    → Going p s k o fs → AllAllowed p (trace acts) k seen → GlimpseOf g k (seeing k seen) → AreGlimpseAllowed p g (trace acts)
run_glimpsed p good [] s k seen g o fs r go a h = tt
run_glimpsed p good (x ∷ acts) s k seen g o fs r go a h =
    with_first p (label x) (trace acts) k seen g h a
    (run_glimpsed p good acts (after p x s) (sees p (label x) k) (see_label p (label x) seen) (glimpses_label p (label x) g)
    (offers p x s o) (settles p x s o fs) r.1 (step_going p good x s k o fs r.0 go) (rest_allowed p (label x) (trace acts) k seen a)
    (step_glimpsed p good x s k seen g o fs r.0 go h))

part_glimpsed : (p : Contents) → IsRead p → (acts : List Step) (before items : List Seen) (s : State) (k : Sink) (seen : List Message)
    (o : Received) (fs : List FileBytes) → IsRun p acts s → Going p s k o fs → AllAllowed p (trace acts) k seen
    → trace acts ≡ before ++ items → AreGlimpseAllowed p glimpse_at_first items
part_glimpsed p good acts [] items s k seen o fs r go a e =
    subst (AreGlimpseAllowed p glimpse_at_first) e (run_glimpsed p good acts s k seen glimpse_at_first o fs r go a refl)
part_glimpsed p good [] (b ∷ before) items s k seen o fs r go a e = absurd (cc e)
part_glimpsed p good (x ∷ acts) (b ∷ before) items s k seen o fs r go a e =
    let next = step_going p good x s k o fs r.0 go in
    let more = rest_allowed p (label x) (trace acts) k seen a in
    elim (next_part (label x) (trace acts) before items b e) [
      | inl (n, q) ↦
          part_glimpsed p good acts (b ∷ before) items (after p x s) (sees p (label x) k) (see_label p (label x) seen) (offers p x s o)
          (settles p x s o fs) r.1 next more q
      | inr q ↦
          part_glimpsed p good acts before items (after p x s) (sees p (label x) k) (see_label p (label x) seen) (offers p x s o)
          (settles p x s o fs) r.1 next more q
    ]

allowed_at : (p : Contents) (items more : List Seen) (i : ℕ) (g : Glimpse)
    → AreGlimpseAllowed p g (take (suc i) items ++ more) → GlimpseAllowsNext p (glimpsed p (take i items) g) (slice_get items i)
allowed_at p [] more zero g h = tt
allowed_at p [] more (suc i) g h = tt
allowed_at p (x ∷ items) more zero g h = h.0
allowed_at p (x ∷ items) more (suc i) g h = allowed_at p items more i (glimpses p x g) h.1

pub refused_anywhere : (p : Contents)
    → IsRead p → (items : List Seen) (i : ℕ) → IsRefusedAnywhere p items i → IsPartOfARun p (take (suc i) items) → ⊥
refused_anywhere p good items i refused r =
    refused (allowed_at p items r.more i glimpse_at_first
    (part_glimpsed p good r.steps r.before (take (suc i) items ++ r.more) (start p r.first) sink_at_first [] nothing_received [] r.run
    (start_going p r.first r.byte) (trace_allowed p good r.first r.byte r.steps r.run) r.records))
