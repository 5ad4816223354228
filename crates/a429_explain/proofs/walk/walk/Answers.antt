use Rattle.std.proofs.Common.{◌≡◌, ◌+◌, Some, slice_get, refl, sym, ap, ◌∙◌, subst, arith, rules}
use Rattle.a429_ldu.specs.declared.sight.Sight.{Sight}
use Rattle.a429_ldu.specs.Sight.{sight_in}
use Rattle.a429_link.specs.Observer.{Allows}
use Rattle.a429_cert.specs.Explained.{items_of}
use Rattle.a429_cert.proofs.ItemsFacts.{length-items_of}
use Rattle.a429_explain.specs.Screening.{ScreenedEntries}
use Rattle.a429_explain.specs.Walk.{FitsSight, IsRefusable}
use Rattle.a429_explain.proofs.WalkFacts.{IsAllowedAt, formed, form_told, is_refusal, item_at, refusable, walked, walks_on}
use Rattle.a429_explain.proofs.WithoutLoss.{begins}
use Rattle.a429_explain.proofs.walk.walk.Goals as goal
use Rattle.a429_explain.proofs.walk.walk.Goals.{After-form, After-seen}

-- the word of the entry
item : (a : After-seen) → slice_get (items_of a.args.entries.now) a.loop-entry.entry ≡ Some a.seen.result
item a =
    item_at a.args.entries.now a.loop-entry.entry a.index-entries-entry.result a.seen.result a.loop-entry-test.true a.index-entries-entry.is
    a.seen.ensures

-- what is refused, and its form
refused : (a : After-form) → Allows a.args.profile.now a.loop-entry.observer a.seen.result → ⊥
refused a h = cc (a.in-Err.ensures.allowed.1 h)

may_be : (a : After-form) → IsRefusable a.in-Err.sight
may_be a =
    refusable a.args.profile.now a.screening_of-screening.ensures.sound a.loop-entry.observer a.seen.result a.in-Err.sight
    a.in-Err.ensures.err (refused a)

told : (a : After-form) → sight_in a.form.result ≡ a.in-Err.sight
told a = ap sight_in a.form.ensures ∙ form_told a.in-Err.sight (may_be a)

pub reason_of-reason-requires : goal.reason_of-reason-requires
reason_of-reason-requires c =
    let a = (goal.at.reason_of-reason-requires c).After-form in
    subst IsRefusable (sym (told a)) (may_be a)

pub returns-in-Err-clause-halt : goal.returns-in-Err-clause-halt
returns-in-Err-clause-halt c =
    let a = (goal.at.returns-in-Err-clause-halt c).After-form in
    let p = c.args.profile.now in
    let items = items_of c.args.entries.now in
    let n = c.loop-entry.entry in
    let fits = subst (λ (s : Sight). FitsSight s c.reason_of-reason.result) (told a) c.reason_of-reason.ensures in
    is_refusal p items n c.loop-entry.observer c.seen.result c.in-Err.sight c.reason_of-reason.result
    (c.refused_is_impossible.ensures p items n c.screening_of-screening.ensures.sound)
    (item (goal.at.returns-in-Err-clause-halt c).After-seen) c.in-Err.ensures.err fits (refused a) c.loop-entry.invariant.walks

pub returns-in-Err-clause-without_loss : goal.returns-in-Err-clause-without_loss
returns-in-Err-clause-without_loss c =
    λ h.
    absurd ((returns-in-Err-clause-halt c).impossible
    (begins c.args.profile.now c.screening_of-screening.ensures.sound (items_of c.args.entries.now) (c.loop-entry.entry + 1) h))

pub loop-entry-preserved : goal.loop-entry-preserved
loop-entry-preserved c =
    let may : IsAllowedAt c.args.profile.now (items_of c.args.entries.now) c.loop-entry.entry c.loop-entry.observer c.seen.result = record {
      item = item (goal.at.loop-entry-preserved c).After-seen;
      allowed = c.in-Ok.ensures.allowed.0 refl;
    } in
    record {
      walks =
          walks_on c.args.profile.now (items_of c.args.entries.now) c.loop-entry.entry c.loop-entry.observer c.see_screened.new.observer
          c.seen.result c.loop-entry.invariant.walks may c.in-Ok.ensures.taken;
      entries = ap (λ (v : ScreenedEntries). v.entries) c.answer-answer.ensures.same ∙ c.loop-entry.invariant.entries;
      label = ap (λ (v : ScreenedEntries). v.label) c.answer-answer.ensures.same ∙ c.loop-entry.invariant.label;
    }

pub returns-clause-allowed : goal.returns-clause-allowed
returns-clause-allowed c =
    let items = items_of c.args.entries.now in
    walked c.args.profile.now items c.loop-entry.entry c.loop-entry.observer
    (omega (arith, c.loop-entry-test.false, length-items_of c.args.entries.now)) c.loop-entry.invariant.walks

pub returns-clause-formed : goal.returns-clause-formed
returns-clause-formed c = formed c.args.profile.now (items_of c.args.entries.now) (returns-clause-allowed c)

pub loop-entry-init : goal.loop-entry-init
loop-entry-init c = search rules

pub returns-clause-halt : goal.returns-clause-halt
returns-clause-halt c = tt

pub returns-clause-without_loss : goal.returns-clause-without_loss
returns-clause-without_loss c = λ h. refl
