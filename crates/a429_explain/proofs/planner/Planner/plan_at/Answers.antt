use Rattle.std.proofs.Common.{rules, ◌≡◌, ◌<◌, length, inr, slice_get, refl, ap, subst, sym, ◌∙◌, arith}
use Rattle.a429_cert.specs.Change.{change}
use Rattle.a429_explain.specs.Decoded.{sight_at}
use Rattle.a429_explain.specs.Groups.{group_from}
use Rattle.a429_explain.specs.Planner.{with_roles, PlansGroup, StopsAt}
use Rattle.a429_explain.specs.Whole.{wanted}
use Rattle.a429_explain.proofs.AttemptsFacts.{asked_is, roles_long}
use Rattle.a429_explain.proofs.GroupsFacts.{group_is}
use Rattle.a429_explain.proofs.planner.Planner.plan_at.Goals as goal
use Rattle.a429_explain.proofs.planner.Planner.plan_at.Goals.{After-asked}

-- what the role asks for is what the word does
wants : (a : After-asked)
    → a.asked.result ≡ wanted (sight_at a.args.decoded.now.profile.codes (slice_get a.args.decoded.now.items a.args.at))
wants a = a.asked.ensures
    ∙ asked_is a.args.decoded.now.profile.codes a.args.decoded.now.items a.args.roles.now a.args.at _ a.requires.roles a.requires.inside

pub bounds-roles-at : goal.bounds-roles-at
bounds-roles-at c =
    let long = roles_long c.args.decoded.now.profile.codes c.args.decoded.now.items c.args.roles.now c.requires.roles in
    omega (arith, long, c.requires.inside)

pub offset_bounds-roles-at : goal.offset_bounds-roles-at
offset_bounds-roles-at c =
    let long = roles_long c.args.decoded.now.profile.codes c.args.decoded.now.items c.args.roles.now c.requires.roles in
    let inside : c.args.at < length c.args.roles.now = omega (arith, long, c.requires.inside) in
    search rules

pub returns-in_default-clause-planned : goal.returns-in_default-clause-planned
returns-in_default-clause-planned c =
    inr (c.if-at-self.false, sym (wants (goal.at.returns-in_default-clause-planned c).After-asked) ∙ c.in_default.is, refl)

pub overflow_add-self : goal.overflow_add-self
overflow_add-self c = omega (arith, c.requires.inside, c.len-length.ensures, c.len-length.type_inv)

pub group_at-group-requires : goal.group_at-group-requires
group_at-group-requires c =
    let long = roles_long c.args.decoded.now.profile.codes c.args.decoded.now.items c.args.roles.now c.requires.roles in
    omega (arith, long, c.requires.inside)

pub plan_group-requires : goal.plan_group-requires
plan_group-requires c =
    let long = roles_long c.args.decoded.now.profile.codes c.args.decoded.now.items c.args.roles.now c.requires.roles in
    let g = c.group_at-group.result in
    let from = c.group_at-group.ensures.from in
    let is = group_is c.args.roles.now c.args.at g from c.group_at-group.ensures.to in
    record {
      roles = c.requires.roles;
      request = record {
        some = rw from c.group_at-group.ensures.some;
        inside = omega (arith, long, c.group_at-group.ensures.inside);
        wants = rw from (sym (wants (goal.at.plan_group-requires c).After-asked) ∙ c.in-Some.is);
      };
      group = is ∙ ap (λ n. group_from c.args.roles.now n) (sym from);
      follows = rw from c.if-at-self.false;
    }

pub returns-in-Ok : goal.returns-in-Ok
returns-in-Ok c =
    let from = c.group_at-group.ensures.from in
    record {
      planned =
          subst (λ n. PlansGroup (with_roles c.args.decoded.now) n c.in-Ok.plan (change c.args.self.now c.plan_group.new.self)) from
          c.in-Ok.ensures.planned;
      past = rw (c.in-Ok.ensures.next) c.group_at-group.ensures.some;
      stopped = tt;
      fits = tt;
    }

pub returns-in-Err : goal.returns-in-Err
returns-in-Err c = record {
  planned = tt;
  past = tt;
  stopped =
      subst (λ n. StopsAt (with_roles c.args.decoded.now) n c.args.self.now c.in-Err.stop) c.group_at-group.ensures.from
      c.in-Err.ensures.stopped;
  fits = c.in-Err.ensures.fits;
}
