-- The steps of letters, and why the link refuses them.
use Rattle.std.proofs.Common.{◌≡◌, ◌≢◌, Option, Some, None, Result, Ok, Err, IfErr, refl, sym, ap, ◌∙◌, subst}
use Rattle.std.proofs.lemmas.Option.{same_Some}
use Rattle.a429_word.specs.declared.bus.Bus.TheVariants as bus
use Rattle.a429_profile.specs.Profile.{Contents, IsProfile}
use Rattle.a429_ldu.specs.CheckWord.{check_of}
use Rattle.a429_ldu.specs.Ldu.{LduValue, IsLdu, IsFirstLduFault}
use Rattle.a429_ldu.specs.declared.fault.LduFault.{LduFault}
use Rattle.a429_ldu.specs.declared.fault.LduFault.TheVariants as unit
use Rattle.a429_ldu.proofs.CarriedFacts.{carries_of, carried_of}
use Rattle.a429_link.specs.State.{states_of, State}
use Rattle.a429_link.specs.declared.seen.Seen.{Seen}
use Rattle.a429_link.specs.declared.step.Step.{Step}
use Rattle.a429_link.specs.declared.step.Step.TheVariants as step
use Rattle.a429_link.specs.declared.fault.StepFault.{StepFault}
use Rattle.a429_link.specs.declared.fault.StepFault.TheVariants as fault
use Rattle.a429_link.specs.Step.{Can, IsNamedStep, IsFault}
use Rattle.a429_link.proofs.LinkKept.{free_word}
use Rattle.a429_cert.specs.declared.act.Act.{Act}
use Rattle.a429_cert.specs.declared.act.Act.TheVariants as act
use Rattle.a429_cert.specs.Act.{step_with}
use Rattle.a429_cert.specs.declared.at.At.{At}
use Rattle.a429_cert.specs.declared.line.LoadLine.{LoadLine}
use Rattle.a429_cert.specs.declared.line.MovedLine.{MovedLine}
use Rattle.a429_cert.specs.declared.line.CertLine.TheVariants.{Load, Moved}
use Rattle.a429_cert.specs.declared.fault.CertFault.{CertFault}
use Rattle.a429_cert.specs.declared.fault.CertFault.TheVariants as of
use Rattle.a429_cert.specs.Fault.{IsNamed}
use Rattle.a429_cert.specs.Passing.{IsNamedOf, IsReadyOf, IsStepFault, IsFaultOfRead, MakesStep, RefusesLine, no_unit}
use Rattle.a429_cert.specs.Explained.{listed_ldu}

-- ---- a step by its letter

-- a step of its name is one of its letter
pub named_of : (p : Contents) (x : Act) (next : Option Seen) (a : Step) (s : State)
    → step_with x next ≡ Some a → IsNamedStep p a s → IsNamedOf p x s
named_of p act.Sent None a s e n = absurd (cc e)
named_of p act.Sent (Some i) a s e n =
    let n' = subst (λ b. IsNamedStep p b s) (sym (same_Some _ a e)) n in (Some n'.0, (step.Sent n'.0, refl, n'.1))
named_of p act.Answered None a s e n = absurd (cc e)
named_of p act.Answered (Some i) a s e n =
    let n' = subst (λ b. IsNamedStep p b s) (sym (same_Some _ a e)) n in (Some n'.0, (step.Answered n'.0, refl, n'.1))
named_of p act.FreeSeen None a s e n = absurd (cc e)
named_of p act.FreeSeen (Some i) a s e n =
    let n' = subst (λ b. IsNamedStep p b s) (sym (same_Some _ a e)) n in (Some n'.0, (step.FreeSeen n'.0, refl, n'.1))
named_of p act.SentLost next a s e n = (next, (step.SentLost, refl, subst (λ b. IsNamedStep p b s) (sym (same_Some _ a e)) n))
named_of p act.TimeOut next a s e n = (next, (step.TimeOut, refl, subst (λ b. IsNamedStep p b s) (sym (same_Some _ a e)) n))
named_of p act.TakeAnswer next a s e n = (next, (step.TakeAnswer, refl, subst (λ b. IsNamedStep p b s) (sym (same_Some _ a e)) n))
named_of p act.LoseAnswer next a s e n = (next, (step.LoseAnswer, refl, subst (λ b. IsNamedStep p b s) (sym (same_Some _ a e)) n))
named_of p act.SinkTakes next a s e n = (next, (step.SinkTakes, refl, subst (λ b. IsNamedStep p b s) (sym (same_Some _ a e)) n))
named_of p act.Silent next a s e n = (next, (step.Silent, refl, subst (λ b. IsNamedStep p b s) (sym (same_Some _ a e)) n))
named_of p act.GiveUp next a s e n = (next, (step.GiveUp, refl, subst (λ b. IsNamedStep p b s) (sym (same_Some _ a e)) n))

-- and the other way round
pub of_named : (p : Contents) (x : Act) (next other : Option Seen) (a b : Step) (s : State)
    → step_with x next ≡ Some a → step_with x other ≡ Some b → Can p b s → IsNamedStep p a s
of_named p act.Sent None other a b s e h can = absurd (cc e)
of_named p act.Sent (Some i) None a b s e h can = absurd (cc h)
of_named p act.Sent (Some i) (Some j) a b s e h can =
    subst (λ c. IsNamedStep p c s) (same_Some _ a e) (j, subst (λ c. Can p c s) (sym (same_Some _ b h)) can)
of_named p act.Answered None other a b s e h can = absurd (cc e)
of_named p act.Answered (Some i) None a b s e h can = absurd (cc h)
of_named p act.Answered (Some i) (Some j) a b s e h can =
    subst (λ c. IsNamedStep p c s) (same_Some _ a e) (j, subst (λ c. Can p c s) (sym (same_Some _ b h)) can)
of_named p act.FreeSeen None other a b s e h can = absurd (cc e)
of_named p act.FreeSeen (Some i) None a b s e h can = absurd (cc h)
of_named p act.FreeSeen (Some i) (Some j) a b s e h can =
    subst (λ c. IsNamedStep p c s) (same_Some _ a e) (j, subst (λ c. Can p c s) (sym (same_Some _ b h)) can)
of_named p act.SentLost next other a b s e h can =
    subst (λ c. IsNamedStep p c s) (same_Some _ a e) (subst (λ c. Can p c s) (sym (same_Some _ b h)) can)
of_named p act.TimeOut next other a b s e h can =
    subst (λ c. IsNamedStep p c s) (same_Some _ a e) (subst (λ c. Can p c s) (sym (same_Some _ b h)) can)
of_named p act.TakeAnswer next other a b s e h can =
    subst (λ c. IsNamedStep p c s) (same_Some _ a e) (subst (λ c. Can p c s) (sym (same_Some _ b h)) can)
of_named p act.LoseAnswer next other a b s e h can =
    subst (λ c. IsNamedStep p c s) (same_Some _ a e) (subst (λ c. Can p c s) (sym (same_Some _ b h)) can)
of_named p act.SinkTakes next other a b s e h can =
    subst (λ c. IsNamedStep p c s) (same_Some _ a e) (subst (λ c. Can p c s) (sym (same_Some _ b h)) can)
of_named p act.Silent next other a b s e h can =
    subst (λ c. IsNamedStep p c s) (same_Some _ a e) (subst (λ c. Can p c s) (sym (same_Some _ b h)) can)
of_named p act.GiveUp next other a b s e h can =
    subst (λ c. IsNamedStep p c s) (same_Some _ a e) (subst (λ c. Can p c s) (sym (same_Some _ b h)) can)

-- what the link says of the step, said of its letter
pub fault_of : (p : Contents) (x : Act) (next : Option Seen) (a : Step) (s : State) (e : StepFault)
    → step_with x next ≡ Some a → IsFault p a s e → IsStepFault p x next s e
fault_of p x next a s fault.NotAllowed is h = λ n. h (of_named p x next n.0 a n.1.0 s is n.1.1 n.1.2)
fault_of p x next a s fault.WordDiffers is h =
    (named_of p x next a s is h.0, λ c. h.1 (subst (λ b. Can p b s) (same_Some c.0 a (sym c.1 ∙ is)) c.2))
fault_of p x next a s fault.OutOfMemory is h = tt

-- ---- letters without an entry

pub sent_named : (p : Contents) (i : Seen) (s : State) → IsNamedStep p (step.Sent i) s → IsNamedOf p act.Sent s
sent_named p i s n = named_of p act.Sent (Some i) (step.Sent i) s refl n

pub answered_named : (p : Contents) (i : Seen) (s : State) → IsNamedStep p (step.Answered i) s → IsNamedOf p act.Answered s
answered_named p i s n = named_of p act.Answered (Some i) (step.Answered i) s refl n

pub named_sent : (p : Contents) (i : Seen) (s : State) → IsNamedOf p act.Sent s → IsNamedStep p (step.Sent i) s
named_sent p i s n = of_named p act.Sent (Some i) n.0 (step.Sent i) n.1.0 s refl n.1.1 n.1.2

pub named_answered : (p : Contents) (i : Seen) (s : State) → IsNamedOf p act.Answered s → IsNamedStep p (step.Answered i) s
named_answered p i s n = of_named p act.Answered (Some i) n.0 (step.Answered i) n.1.0 s refl n.1.1 n.1.2

free_named : (p : Contents) (s : State) → IsNamedOf p act.FreeSeen s
free_named p s = let word : Seen = record { bus = bus.A; word = 0 } in (Some word, (step.FreeSeen word, refl, free_word p.codes))

-- of the letters that want an entry the third is that of a free word
pub ready_other : (p : Contents) (x : Act) (s : State) → x ≢ act.Sent → x ≢ act.Answered → IsReadyOf p x s
ready_other p act.Sent s a b = absurd (a refl)
ready_other p act.Answered s a b = absurd (b refl)
ready_other p act.FreeSeen s a b = free_named p s
ready_other p act.SentLost s a b = tt
ready_other p act.TimeOut s a b = tt
ready_other p act.TakeAnswer s a b = tt
ready_other p act.LoseAnswer s a b = tt
ready_other p act.SinkTakes s a b = tt
ready_other p act.Silent s a b = tt
ready_other p act.GiveUp s a b = tt

-- ---- link data units

-- what Ldu::new refuses is none
no_unit_is : (p : Contents) → IsProfile p → (u : LduValue) (f : LduFault) → IsFirstLduFault p u.check u.words f → IsLdu p u → ⊥
no_unit_is p is v unit.Count h u = h u.length
no_unit_is p is v unit.NotBytes h u = h.1 u.bytes (carries_of p is v.words u.bytes u.carries)
no_unit_is p is v unit.CheckWrong h u =
    let same : h.1 ≡ u.bytes = same_Some h.1 u.bytes (sym (carried_of p is v.words h.1 h.2) ∙ u.carries) in
    h.4 (u.checked h.3 ∙ ap (check_of p.check) (sym same))
no_unit_is p is v unit.OutOfMemory h u = h

pub faults_of : {T : Type 0} (p : Contents) (x : Act) (next : Option Seen) (a : Step) (s : State) (r : Result T StepFault)
    → step_with x next ≡ Some a → IfErr r (λ e. IsFault p a s e) → IfErr r (λ e. IsStepFault p x next s e)
faults_of p x next a s (Ok u) is h = h
faults_of p x next a s (Err e) is h = fault_of p x next a s e is h

-- ---- lines that were read

pub unit_refused : (p : Contents)
    → IsProfile p → (s : State) (at : At) (l : LoadLine) (f : LduFault) (e : CertFault) → e ≡ no_unit f at.line
    → (f ≢ unit.OutOfMemory → IsFirstLduFault p l.check l.words f) → RefusesLine p (Load l) at s e
unit_refused p is s at l f e g first = λ h. rw g (by f first (λ q. h (g ∙ q)))
  where
    none : (f : LduFault) → IsFirstLduFault p l.check l.words f → IsNamed p (Load l) s → ⊥
    none f first m =
        let can : Can p (step.Load (listed_ldu l)) s = subst (λ b. Can p b s) (sym (same_Some _ m.1.0 m.1.1)) m.1.2 in
        no_unit_is p is (listed_ldu l) f first can.3

    by : (f : LduFault) → (f ≢ unit.OutOfMemory → IsFirstLduFault p l.check l.words f) → (no_unit f at.line ≢ of.OutOfMemory)
        → IsFaultOfRead p s at (Load l) (no_unit f at.line)
    by unit.Count first h = (tt, (refl, none unit.Count (first (λ q. cc q))))
    by unit.NotBytes first h = (tt, (refl, none unit.NotBytes (first (λ q. cc q))))
    by unit.CheckWrong first h = (tt, (refl, none unit.CheckWrong (first (λ q. cc q))))
    by unit.OutOfMemory first h = absurd (h refl)

pub state_differs : (p : Contents) (l : MovedLine) (s t : State) (at : At)
    → MakesStep p (step_with l.act at.next) s t → (states_of t ≡ l.states → ⊥) → RefusesLine p (Moved l) at s (of.StateDiffers at.line)
state_differs p l s t at made other = λ _. by (step_with l.act at.next) refl made
  where
    by : (o : Option Step) → step_with l.act at.next ≡ o → MakesStep p o s t → IsFaultOfRead p s at (Moved l) (of.StateDiffers at.line)
    by None e m = absurd m
    by (Some a) e m = (tt, (refl, a, e, m.0, λ q. other (ap states_of m.1 ∙ q)))
