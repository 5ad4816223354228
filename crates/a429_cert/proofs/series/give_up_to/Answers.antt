use Rattle.std.proofs.Common.{◌≡◌, ◌∙◌, ◌≤◌, ◌+◌, ◌-◌, ◌%◌, ℕ, List, arith, ap, refl, sym}
use Rattle.a429_link.specs.GiveUps.{MayGiveUp}
use Rattle.a429_link.specs.Link.{LinkValue}
use Rattle.a429_link.specs.Number.{files_past}
use Rattle.a429_link.specs.Run.{end_of}
use Rattle.a429_link.specs.State.{State}
use Rattle.a429_profile.specs.Profile.{Contents}
use Rattle.a429_link.specs.Source.{IsIdle}
use Rattle.a429_link.specs.Step.{after, IsFault}
use Rattle.a429_link.specs.declared.fault.StepFault.{StepFault}
use Rattle.a429_link.specs.declared.fault.StepFault.TheVariants as fault
use Rattle.a429_link.specs.declared.number.UnitNumber.{UnitNumber}
use Rattle.a429_link.specs.declared.step.Step.{Step}
use Rattle.a429_link.specs.declared.step.Step.TheVariants.{GiveUp}
use Rattle.a429_cert.specs.Series.{gap, give_ups}
use Rattle.a429_cert.proofs.SeriesFacts.{past_is, gap_all, gap_none, one_first}
use Rattle.a429_cert.proofs.series.give_up_to.Goals as goal

no_fault : (p : Contents) (s : State) (n : ℕ) (e : StepFault)
    → IsIdle s.source.phase → s.source.give_ups + n ≤ 127 → 1 ≤ n → IsFault p GiveUp s e → ⊥
no_fault p s n fault.NotAllowed idle few some h = h (idle, omega (arith, few, some))
no_fault p s n fault.WordDiffers idle few some h = h.1 (idle, omega (arith, few, some))
no_fault p s n fault.OutOfMemory idle few some h = absurd h.1

pub files-init : goal.files-init
files-init c =
    let s = c.args.link.state in
    let past : (c.args.first + (256 - c.number.result.file)) % 256 ≡ files_past c.args.first s.source.number.file =
    past_is c.args.first c.number.result.file (omega (arith, c.number.type_inv))
    ∙ ap (λ (n : UnitNumber). files_past c.args.first n.file) c.number.ensures in
    let may : MayGiveUp s ((c.args.first + (256 - c.number.result.file)) % 256) = c.may_give_up.ensures.0 c.if-not-may_give_up.false in
    record {
      idle = may.0;
      few = may.1;
      profile = refl;
      to_go =
          ap (λ n. end_of c.args.link.profile (give_ups n) s)
          (sym (gap_all s c.args.first ((c.args.first + (256 - c.number.result.file)) % 256) past may));
    }

pub files-preserved : goal.files-preserved
files-preserved c =
    let v = c.files.invariant in
    let p = c.files.link.profile in
    let s = c.files.link.state in
    let some : 1 ≤ c.files.left = c.files-test.true in
    let done = c.in-Ok.ensures.done in
    let state : c.apply.new.self.state ≡ after p GiveUp s = ap (λ (l : LinkValue). l.state) done in
    let profile : c.apply.new.self.profile ≡ p = ap (λ (l : LinkValue). l.profile) done in
    record {
      idle = rw state v.idle;
      few = rw state (omega (arith, v.few, some));
      profile = profile ∙ v.profile;
      to_go = rw (profile, state) (sym (ap (λ (l : List Step). end_of p l s) (one_first c.files.left some)) ∙ v.to_go);
    }

pub returns : goal.returns
returns c =
    let v = c.files.invariant in
    let none : c.files.left ≡ 0 = omega (arith, c.files-test.false) in
    let there : c.files.link.state ≡ end_of c.args.link.profile (give_ups (gap c.args.link.state c.args.first)) c.args.link.state =
    sym (ap (λ n. end_of c.files.link.profile (give_ups n) c.files.link.state) none) ∙ v.to_go in
    by c.files.link v.profile there
  where
    by : {p : _} {s : State} (l : LinkValue) → l.profile ≡ p → l.state ≡ s → l ≡ record { profile = p; state = s }
    by l e g = rw (← e, ← g) refl

pub returns-then-not-may_give_up : goal.returns-then-not-may_give_up
returns-then-not-may_give_up c =
    let s = c.args.link.state in
    let past : (c.args.first + (256 - c.number.result.file)) % 256 ≡ files_past c.args.first s.source.number.file =
    past_is c.args.first c.number.result.file (omega (arith, c.number.type_inv))
    ∙ ap (λ (n : UnitNumber). files_past c.args.first n.file) c.number.ensures in
    let none : gap s c.args.first ≡ 0 =
    gap_none s c.args.first ((c.args.first + (256 - c.number.result.file)) % 256) past
    (λ (may : MayGiveUp s ((c.args.first + (256 - c.number.result.file)) % 256)).
    cc (c.if-not-may_give_up.true, c.may_give_up.ensures.1 may)) in
    rw none refl

pub apply-requires : goal.apply-requires
apply-requires c = tt

pub overflow_sub-left : goal.overflow_sub-left
overflow_sub-left c = c.files-test.true

pub files-smaller : goal.files-smaller
files-smaller c = omega (arith, c.files-test.true)

pub unreachable-requires : goal.unreachable-requires
unreachable-requires c =
    no_fault c.files.link.profile c.files.link.state c.files.left c.in-Err.field-0 c.files.invariant.idle c.files.invariant.few
    c.files-test.true c.in-Err.ensures.fault
