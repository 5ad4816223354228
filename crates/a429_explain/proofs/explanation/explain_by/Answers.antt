use Rattle.std.proofs.Common.{◌≡◌, ◌<◌, List, [], ◌∷◌, ◌++◌, ◌+◌, Option, Some, slice_get, option_map, refl, sym, take, drop, length, take_all, ap, subst, ◌∙◌, arith}
use Rattle.std.specs.Option.{IfSome}
use Rattle.std.proofs.lemmas.Option.{slice_get-map, slice_get_read}
use Rattle.a429_cert.specs.Explained.{seen_of}
use Rattle.a429_ldu.specs.Ldu.{IsLdu}
use Rattle.a429_link.specs.declared.seen.Seen.{Seen}
use Rattle.a429_link.specs.Link.{LinkValue}
use Rattle.a429_link.specs.Run.{BeginsARun}
use Rattle.a429_cert.specs.Explained.{items_of}
use Rattle.a429_profile.specs.Profile.{Contents, IsProfile}
use Rattle.a429_cert.proofs.ItemsFacts.{length-items_of}
use Rattle.a429_explain.specs.declared.plan.Plan.{Plan}
use Rattle.a429_explain.specs.Explanation.{IsExplanationOf, IsRefusedAt}
use Rattle.a429_explain.specs.Guess.{decoded, IsOfCrossing}
use Rattle.a429_explain.specs.Plan.{ArePlans, plan_for, plans_left}
use Rattle.a429_explain.specs.Scribe.{Wrote}
use Rattle.a429_explain.proofs.PlanFacts.{plan_fits, left_fit, after_more}
use Rattle.a429_explain.proofs.ScribeFacts.{run_begun, why_refused, refused_next}
use Rattle.a429_explain.proofs.ScribeWithoutLoss.{OnPlan, Goes, entries_next, entry_next, goes_run, goes_lossless, plan_kept, plan_starts}
use Rattle.a429_explain.proofs.explanation.explain_by.Goals as goal
use Rattle.a429_explain.proofs.explanation.explain_by.Goals.{After-seen, After-explanation_of}

-- of a recording without loss the next entry is on plan
goes : (a : After-seen) → IsOfCrossing (decoded a.args.profile.now (items_of a.args.entries.now)) a.args.guess
    → Goes a.args.profile.now a.seen.result
    (drop (a.loop-at.at + 1) (items_of a.args.entries.now)) a.loop-at.at a.index-role.result.now a.loop-at.plans.items a.loop-at.scribe.link
goes a h =
    entry_next a.args.profile.now a.args.entries.now a.loop-at.at a.index-entries-at.result a.seen.result a.index-role.result.now
    a.args.guess.roles.items a.loop-at.plans.items a.loop-at.scribe.link a.loop-at-test.true a.index-entries-at.is a.seen.ensures
    h.roles_are a.index-role.ensures (a.loop-at.invariant.plan h)

pub loop-at-init : goal.loop-at-init
loop-at-init c = record {
  profile = ap {A = LinkValue} (λ l. l.profile) c.new-scribe.ensures.start;
  plans = c.requires.plans;
  written = c.new-scribe.ensures.written;
  left = refl;
  plan =
      λ h.
      subst (λ (ps : List Plan). OnPlan c.args.profile.now (items_of c.args.entries.now) 0 ps c.new-scribe.result.link) (sym h.plans_are)
      (plan_starts c.args.profile.now c.codes-codes.ensures.sound (items_of c.args.entries.now) c.args.guess.first_file h.units
      c.new-scribe.result.link c.new-scribe.ensures.written.byte h.crossed c.new-scribe.ensures.start);
}

pub write_entry-requires : goal.write_entry-requires
write_entry-requires c =
    let p = c.loop-at.scribe.link.profile in
    let plans = subst (λ q. ArePlans q c.loop-at.plans.items) (sym c.loop-at.invariant.profile) c.loop-at.invariant.plans in
    subst (λ (o : Option Plan). IfSome o (λ q. IsLdu p q.unit)) (sym c.take_plan-plan.ensures.taken)
    (plan_fits p c.index-role.result.now c.loop-at.at c.loop-at.plans.items plans)

pub returns-in-Err-clause-refused : goal.returns-in-Err-clause-refused
returns-in-Err-clause-refused c =
    let items = items_of c.args.entries.now in
    let s = c.loop-at.scribe in
    let inside : c.loop-at.at < length items = omega (arith, c.loop-at-test.true, length-items_of c.args.entries.now) in
    let begun =
    subst (λ q. BeginsARun q (take c.loop-at.at items)) c.loop-at.invariant.profile
    (run_begun (take c.loop-at.at items) c.args.guess.first_file s.lines s.gave_up s.link c.loop-at.invariant.written) in
    let here : slice_get items c.loop-at.at ≡ Some c.seen.result = slice_get-map seen_of c.args.entries.now c.loop-at.at
    ∙ ap (option_map seen_of)
    (slice_get_read c.args.entries.now
    (length c.args.entries.now) c.loop-at.at c.index-entries-at.result refl c.loop-at-test.true c.index-entries-at.is)
    ∙ ap Some (sym c.seen.ensures) in
    let role : slice_get c.args.guess.roles.items c.loop-at.at ≡ Some c.index-role.result.now =
    slice_get_read c.args.guess.roles.items (length c.args.guess.roles.items) c.loop-at.at c.index-role.result.now refl
    (omega (arith, inside, c.requires.many)) c.index-role.ensures in
    let plan = c.take_plan-plan.ensures.taken ∙ ap (plan_for c.index-role.result.now c.loop-at.at) c.loop-at.invariant.left in
    why_refused c.args.profile.now items c.args.guess c.loop-at.at c.in-Err.fault c.refused_at.result c.refused_at.ensures.memory
    c.refused_at.ensures.step inside begun
    (λ other. subst (λ q. IsRefusedAt q items c.args.guess c.loop-at.at) c.loop-at.invariant.profile
    (refused_next items c.args.guess c.loop-at.at c.seen.result c.index-role.result.now c.take_plan-plan.result s.lines s.gave_up s.link
    here role plan c.loop-at.invariant.written (c.in-Err.ensures.refused other)))

pub returns-in-Err-clause-without_loss : goal.returns-in-Err-clause-without_loss
returns-in-Err-clause-without_loss c = λ h.
    let k = goes (goal.at.returns-in-Err-clause-without_loss c).After-seen h in
    let more = drop (c.loop-at.at + 1) (items_of c.args.entries.now) in
    let plain =
    goes_lossless c.args.profile.now c.seen.result more c.loop-at.at c.index-role.result.now c.take_plan-plan.result c.loop-at.plans.items
    c.loop-at.scribe.link c.take_plan-plan.ensures.taken k in
    let run =
    goes_run c.args.profile.now c.seen.result more c.loop-at.at c.index-role.result.now c.take_plan-plan.result c.loop-at.plans.items
    c.loop-at.scribe.link c.loop-at.invariant.profile c.take_plan-plan.ensures.taken k in
    c.refused_at.ensures.memory (c.in-Err.ensures.lossless plain run).0

pub loop-at-preserved : goal.loop-at-preserved
loop-at-preserved c =
    let es = c.args.entries.now in
    let p = c.args.profile.now in
    record {
      profile = c.in-Ok-write_entry.ensures.profile ∙ c.loop-at.invariant.profile;
      plans =
          subst (ArePlans p) (sym c.take_plan-plan.ensures.left)
          (left_fit p c.index-role.result.now c.loop-at.at c.loop-at.plans.items c.loop-at.invariant.plans);
      written =
          subst (λ (items : List Seen). Wrote c.args.guess.first_file items c.write_entry.new.self)
          (ap (λ (i : Seen). take c.loop-at.at (items_of es) ++ i ∷ []) c.seen.ensures
          ∙ entries_next es c.loop-at.at c.index-entries-at.result c.loop-at-test.true c.index-entries-at.is)
          (c.in-Ok-write_entry.ensures.written c.args.guess.first_file (take c.loop-at.at (items_of es)) c.loop-at.invariant.written);
      left = c.take_plan-plan.ensures.left ∙ ap (plans_left c.index-role.result.now c.loop-at.at) c.loop-at.invariant.left
          ∙ sym (after_more c.args.guess.roles.items c.loop-at.at c.index-role.result.now c.args.guess.plans.items
          (omega (arith, c.loop-at-test.true, c.requires.many, length-items_of es)) c.index-role.ensures);
      plan = λ h.
          let k = goes (goal.at.loop-at-preserved c).After-seen h in
          let more = drop (c.loop-at.at + 1) (items_of es) in
          let plain =
          goes_lossless p c.seen.result more c.loop-at.at c.index-role.result.now c.take_plan-plan.result c.loop-at.plans.items
          c.loop-at.scribe.link c.take_plan-plan.ensures.taken k in
          let run =
          goes_run p c.seen.result more c.loop-at.at c.index-role.result.now c.take_plan-plan.result c.loop-at.plans.items
          c.loop-at.scribe.link c.loop-at.invariant.profile c.take_plan-plan.ensures.taken k in
          plan_kept p c.seen.result more c.loop-at.at c.index-role.result.now c.take_plan-plan.result c.loop-at.plans.items
          c.take_plan-plan.new.plans.items c.loop-at.scribe.link c.write_entry.new.self.link k c.take_plan-plan.ensures.taken
          c.take_plan-plan.ensures.left (c.in-Ok-write_entry.ensures.lossless plain run).1;
    }

-- all entries are written
all_written : (a : After-explanation_of) → Wrote a.args.guess.first_file (items_of a.args.entries.now) a.loop-at.scribe
all_written a =
    let items = items_of a.args.entries.now in
    let all : take a.loop-at.at items ≡ items =
    take_all a.loop-at.at items (omega (arith, a.loop-at-test.false, length-items_of a.args.entries.now)) in
    subst (λ (xs : List Seen). Wrote a.args.guess.first_file xs a.loop-at.scribe) all a.loop-at.invariant.written

-- what the scribe has written is of all entries
explained : (a : After-explanation_of) → IsExplanationOf a.args.profile.now (items_of a.args.entries.now) a.explanation_of.result
explained a =
    let same = a.loop-at.invariant.profile in
    subst (λ (q : Contents). IsExplanationOf q (items_of a.args.entries.now) a.explanation_of.result) same
    (a.explanation_of.ensures a.args.guess.first_file (items_of a.args.entries.now) (subst IsProfile (sym same) a.codes-codes.ensures.sound)
    (all_written a))

pub returns-clause-explained : goal.returns-clause-explained
returns-clause-explained c = (explained (goal.at.returns-clause-explained c).After-explanation_of).explained

pub returns-clause-every : goal.returns-clause-every
returns-clause-every c = (explained (goal.at.returns-clause-every c).After-explanation_of).every

pub returns-clause-accepted : goal.returns-clause-accepted
returns-clause-accepted c = (explained (goal.at.returns-clause-accepted c).After-explanation_of).accepted

pub returns-clause-version : goal.returns-clause-version
returns-clause-version c = (explained (goal.at.returns-clause-version c).After-explanation_of).version
