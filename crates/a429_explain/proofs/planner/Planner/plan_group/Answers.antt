use Rattle.std.proofs.Common.{List, ap, subst, ◌∙◌, refl, arith}
use Rattle.a429_profile.specs.Profile.{Contents}
use Rattle.a429_cert.specs.Change.{change}
use Rattle.a429_explain.specs.declared.attempts.Role.{Role}
use Rattle.a429_explain.specs.declared.plan.Plan.{Plan}
use Rattle.a429_explain.specs.declared.planner.Planner.{Planner}
use Rattle.a429_explain.specs.Guess.{annotated, place_at_group}
use Rattle.a429_explain.specs.Plan.{place_from, give_ups_from, place_after}
use Rattle.a429_explain.specs.Planner.{PlansGroup, StopsAt}
use Rattle.a429_link.specs.declared.number.UnitNumber.{UnitNumber}
use Rattle.a429_explain.proofs.AttemptsFacts.{roles_long}
use Rattle.a429_explain.proofs.PlannerFacts.{IsGroupAt, looking, stops_at, plans_group}
use Rattle.a429_explain.proofs.planner.Planner.plan_group.Goals as goal
use Rattle.a429_explain.proofs.planner.Planner.plan_group.Goals.{After-place_from-numbers}

-- the group that is found
found : (a : After-place_from-numbers)
    → IsGroupAt (annotated a.args.decoded.now.profile a.args.decoded.now.items a.args.roles.now) a.args.self.now a.args.request.group.from
    a.args.request.count a.args.request.group a.place_from-numbers.result
found a = record {
  follows = a.requires.follows;
  request = a.requires.request.wants;
  group_is = a.requires.group;
  numbers_is = a.place_from-numbers.ensures
      ∙ ap (λ (q : Contents). place_from q.codes a.args.self.now.place a.group_start-start.result) a.profile-profile.ensures.is
      ∙ ap (place_from a.args.decoded.now.profile.codes a.args.self.now.place) a.group_start-start.ensures;
}

pub group_start-start-requires : goal.group_start-start-requires
group_start-start-requires c =
    let long = roles_long c.args.decoded.now.profile.codes c.args.decoded.now.items c.args.roles.now c.requires.roles in
    omega (arith, long, c.requires.request.inside)

pub is_settled-requires : goal.is_settled-requires
is_settled-requires c =
    let long = roles_long c.args.decoded.now.profile.codes c.args.decoded.now.items c.args.roles.now c.requires.roles in
    record { some = c.requires.request.some; inside = omega (arith, long, c.requires.request.inside) }

pub returns-in-Err-clause-stopped : goal.returns-in-Err-clause-stopped
returns-in-Err-clause-stopped c =
    let d = c.args.decoded.now in
    let k = found (goal.at.returns-in-Err-clause-stopped c).After-place_from-numbers in
    let stops =
    stops_at (annotated d.profile d.items c.args.roles.now) c.args.self.now c.args.request.group.from c.args.request.count
    c.args.request.group c.place_from-numbers.result c.in-Err.stop k c.in-Err.ensures.first c.in-Err.ensures.crossed_err in
    subst (λ (rs : List Role). StopsAt (annotated d.profile d.items rs) c.args.request.group.from c.args.self.now c.in-Err.stop)
    c.requires.roles stops

pub returns-clause-planned : goal.returns-clause-planned
returns-clause-planned c =
    let d = c.args.decoded.now in
    let codes = d.profile.codes in
    let rs = c.args.roles.now in
    let s = c.args.self.now in
    let g = c.args.request.group in
    let unit = c.in-Ok.unit in
    let numbers = c.place_from-numbers.result in
    let plan : Plan = record { at = g.from; give_ups = c.give_ups_from-give_ups.result; unit = unit } in
    let t : Planner = record { place = c.place_after-self.result; next = g.to } in
    let k = found (goal.at.returns-clause-planned c).After-place_from-numbers in
    let gives = c.give_ups_from-give_ups.ensures ∙ ap (give_ups_from s.place) c.group_start-start.ensures in
    let follows =
    c.place_after-self.ensures
    ∙ ap (λ (q : Contents). place_after q.codes numbers unit c.is_settled.result) c.profile-profile.ensures.is
    ∙ ap (λ (n : UnitNumber). place_after codes n unit c.is_settled.result) k.numbers_is
    ∙ ap (place_after codes (place_at_group codes rs g s.place) unit) c.is_settled.ensures in
    let goes = ap (λ (n : UnitNumber). looking n g.to) follows in
    subst (λ (q : List Role). PlansGroup (annotated d.profile d.items q) c.args.request.group.from plan (change s t)) c.requires.roles
    (plans_group (annotated d.profile d.items rs) s t c.args.request.group.from c.args.request.count g numbers plan k refl gives
    c.in-Ok.ensures.unit c.in-Ok.ensures.crossed goes)
