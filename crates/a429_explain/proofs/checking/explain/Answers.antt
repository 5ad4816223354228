use Rattle.std.proofs.Common.{rules, ◌≡◌, ◌<◌, List, length, take, take_all, get_or, sym, ap, subst, ◌∙◌, arith}
use Rattle.std.specs.Option.{IfSome}
use Rattle.a429_profile.specs.Profile.{Contents, IsProfile}
use Rattle.a429_ldu.specs.Ldu.{IsLdu}
use Rattle.a429_link.specs.declared.seen.Seen.{Seen}
use Rattle.a429_link.specs.Link.{LinkValue}
use Rattle.a429_link.specs.Number.{first_number}
use Rattle.a429_link.specs.State.{start}
use Rattle.a429_explain.specs.declared.planner.Planner.{Planner}
use Rattle.a429_explain.specs.Explanation.{IsExplanationOf}
use Rattle.a429_explain.specs.Guess.{first_place}
use Rattle.a429_explain.specs.Planner.{with_roles, IsPlannedTo, PlansAt}
use Rattle.a429_explain.specs.Scribe.{Wrote}
use Rattle.a429_explain.specs.WithoutLoss.{IsWithoutLoss}
use Rattle.a429_explain.specs.declared.attempts.Role.{Role}
use Rattle.a429_cert.specs.Change.{change}
use Rattle.a429_explain.proofs.AttemptsFacts.{roles_long}
use Rattle.a429_explain.proofs.LeftUnits.{IsOnPlan, IsWritten, items_next, on_plan_first, on_plan_next, on_plan_stop}
use Rattle.a429_explain.proofs.PlannerFacts.{planned_none, planned_on, planned_all, planned_stop, planned_fits}
use Rattle.a429_explain.proofs.WithoutLoss.{its_units, units_found}
use Rattle.a429_explain.proofs.checking.explain.Goals as goal
use Rattle.a429_explain.proofs.checking.explain.Goals.{After-write_entry}

pub loop-at-init : goal.loop-at-init
loop-at-init c =
    let p = c.args.decoded.now.profile in
    let items = c.args.decoded.now.items in
    let first = c.first_file-first_file.result in
    let is = c.profile-profile.ensures.is in
    let looks : c.new-planner.result ≡ record { place = first_number p.codes first; next = 0 } =
    c.new-planner.ensures ∙ ap (λ (q : Contents). record { place = first_number q.codes first; next = 0 }) is in
    let begins : c.new-planner.result ≡ record { place = first_place p items; next = 0 } =
    looks ∙ ap (λ n. record { place = first_number p.codes n; next = 0 }) c.first_file-first_file.ensures in
    record {
      profile = ap {A = LinkValue} (λ l. l.profile) c.new-scribe.ensures.start ∙ is;
      written = c.new-scribe.ensures.written;
      near = omega arith;
      planned =
          subst (IsPlannedTo (with_roles c.args.decoded.now) (first_place p items)) (sym begins)
          (planned_none (with_roles c.args.decoded.now) (first_place p items));
      plan =
          λ h. subst (λ (s : Planner). IsOnPlan p items 0 s c.new-scribe.result.link) (sym looks)
          (on_plan_first p c.profile-profile.ensures.sound items first (its_units p items h) c.new-scribe.result.link
          c.new-scribe.ensures.written.byte (units_found p c.profile-profile.ensures.sound items h first c.first_file-first_file.ensures)
          (c.new-scribe.ensures.start ∙ ap (λ (q : Contents). record { profile = q; state = start q first }) is));
    }

pub returns-in-Err-clause-first : goal.returns-in-Err-clause-first
returns-in-Err-clause-first c =
    planned_stop c.args.decoded.now c.loop-at.at c.loop-at.planner c.in-Err.stop c.loop-at.invariant.near c.in-Err.ensures.stopped
    c.loop-at.invariant.planned

pub returns-in-Err-clause-without_loss : goal.returns-in-Err-clause-without_loss
returns-in-Err-clause-without_loss c = λ h.
    let inside : c.loop-at.at < length c.args.decoded.now.items = omega (arith, c.len-at-end.ensures, c.loop-at-test.true) in
    on_plan_stop c.args.decoded.now.profile c.profile-profile.ensures.sound c.args.decoded.now.items c.loop-at.at c.loop-at.planner
    c.in-Err.stop inside c.loop-at.invariant.near c.in-Err.ensures.stopped (c.loop-at.invariant.plan h).left

pub index-requires : goal.index-requires
index-requires c =
    let long = roles_long c.args.decoded.now.profile.codes c.args.decoded.now.items c.in-Ok.roles.items c.in-Ok.ensures in
    omega (arith, long, c.len-at-end.ensures, c.loop-at-test.true, c.in-Ok.roles.ok.0)

pub write_entry-requires : goal.write_entry-requires
write_entry-requires c =
    let fits =
    planned_fits (with_roles c.args.decoded.now) c.loop-at.at c.in-Ok-plan_at.plan c.loop-at.planner c.plan_at.new.self
    c.in-Ok-plan_at.ensures.planned in
    subst (λ (q : Contents). IfSome c.in-Ok-plan_at.plan (λ x. IsLdu q x.unit)) (sym c.loop-at.invariant.profile) fits

pub not_replayed-requires : goal.not_replayed-requires
not_replayed-requires c =
    let p = c.args.decoded.now.profile in
    let items = c.args.decoded.now.items in
    record {
      roles = c.as_slice-in-NotReplayed.ensures.value ∙ c.in-Ok.ensures;
      inside = omega (arith, c.len-at-end.ensures, c.loop-at-test.true);
      past = c.in-Ok-plan_at.ensures.past;
      planned =
          planned_on (with_roles c.args.decoded.now) (first_place p items) c.loop-at.at c.in-Ok-plan_at.plan c.loop-at.planner
          c.plan_at.new.self c.loop-at.invariant.near c.in-Ok-plan_at.ensures.planned c.loop-at.invariant.planned;
    }

-- where a recording is one without loss, its next entry is written
written : (a : After-write_entry)
    → (PlansAt (with_roles a.args.decoded.now) a.loop-at.at a.in-Ok-plan_at.plan (change a.loop-at.planner a.plan_at.new.self))
    → IsWithoutLoss a.args.decoded.now.profile a.args.decoded.now.items
    → IsWritten a.args.decoded.now.profile a.args.decoded.now.items a.seen.result a.index.result.now a.loop-at.at a.in-Ok-plan_at.plan
    a.plan_at.new.self a.loop-at.scribe.link
written a planned h =
    let role = subst (λ (rs : List Role). a.index.result.now ≡ get_or rs a.loop-at.at a.index.result.now) a.in-Ok.ensures a.index.ensures in
    on_plan_next a.args.decoded.now.profile a.profile-profile.ensures.sound a.args.decoded.now.items a.seen.result a.index.result.now
    a.loop-at.at a.in-Ok-plan_at.plan a.loop-at.planner a.plan_at.new.self a.loop-at.scribe.link a.seen.ensures role
    a.loop-at.invariant.near planned a.loop-at.invariant.profile (a.loop-at.invariant.plan h)

pub returns-in-NotReplayed : goal.returns-in-NotReplayed
returns-in-NotReplayed c = record {
  ok = tt;
  groups = tt;
  fits = c.not_replayed.ensures.fits;
  first = c.not_replayed.ensures.first;
  without_loss = λ h.
      let k = written (goal.at.returns-in-NotReplayed c).After-write_entry c.in-Ok-plan_at.ensures.planned h in
      let memory = c.refused_at.ensures.memory (c.in-Err-write_entry.ensures.lossless k.lossless k.run).0 in
      let other = c.in-NotReplayed.is in
      absurd (cc (memory, other));
}

pub returns-in-OutOfMemory : goal.returns-in-OutOfMemory
returns-in-OutOfMemory c = search rules

pub loop-at-preserved : goal.loop-at-preserved
loop-at-preserved c =
    let p = c.args.decoded.now.profile in
    let items = c.args.decoded.now.items in
    let first = c.first_file-first_file.result in
    let past = c.in-Ok-plan_at.ensures.past in
    record {
      profile = c.in-Ok-write_entry.ensures.profile ∙ c.loop-at.invariant.profile;
      written =
          subst (λ (xs : List Seen). Wrote first xs c.write_entry.new.self) (items_next items c.loop-at.at c.seen.result c.seen.ensures)
          (c.in-Ok-write_entry.ensures.written first (take c.loop-at.at items) c.loop-at.invariant.written);
      near = omega (arith, past);
      planned =
          planned_on (with_roles c.args.decoded.now) (first_place p items) c.loop-at.at c.in-Ok-plan_at.plan c.loop-at.planner
          c.plan_at.new.self c.loop-at.invariant.near c.in-Ok-plan_at.ensures.planned c.loop-at.invariant.planned;
      plan = λ h.
          let k = written (goal.at.loop-at-preserved c).After-write_entry c.in-Ok-plan_at.ensures.planned h in
          k.more c.write_entry.new.self.link (c.in-Ok-write_entry.ensures.lossless k.lossless k.run).1;
    }

pub returns-clause-ok : goal.returns-clause-ok
returns-clause-ok c =
    let p = c.args.decoded.now.profile in
    let items = c.args.decoded.now.items in
    let same = c.loop-at.invariant.profile in
    let all : take c.loop-at.at items ≡ items = take_all c.loop-at.at items (omega (arith, c.loop-at-test.false, c.len-at-end.ensures)) in
    subst (λ (q : Contents). IsExplanationOf q items c.explanation_of.result) same
    (c.explanation_of.ensures c.first_file-first_file.result items (subst IsProfile (sym same) c.profile-profile.ensures.sound)
    (subst (λ (xs : List Seen). Wrote c.first_file-first_file.result xs c.loop-at.scribe) all c.loop-at.invariant.written))

pub returns-clause-groups : goal.returns-clause-groups
returns-clause-groups c =
    planned_all c.args.decoded.now c.loop-at.planner
    (omega (arith, c.len-at-end.ensures, c.loop-at-test.false, c.loop-at.invariant.near)) c.loop-at.invariant.planned
