use Rattle.std.proofs.Common.{arith}
use Rattle.a429_explain.specs.Guess.{first_place}
use Rattle.a429_explain.specs.Planner.{with_roles}
use Rattle.a429_explain.proofs.PlannerFacts.{planned_on, planned_all, planned_stop}
use Rattle.a429_explain.proofs.checking.not_replayed.Goals as goal

pub loop-at-init : goal.loop-at-init
loop-at-init c = record { near = omega (arith, c.requires.past); planned = c.requires.planned }

pub returns-in-Err-clause-first : goal.returns-in-Err-clause-first
returns-in-Err-clause-first c =
    planned_stop c.args.decoded.now c.loop-at.at c.loop-at.planner c.in-Err.stop c.loop-at.invariant.near c.in-Err.ensures.stopped
    c.loop-at.invariant.planned

pub loop-at-preserved : goal.loop-at-preserved
loop-at-preserved c =
    let r = with_roles c.args.decoded.now in
    let past = c.in-Ok.ensures.past in
    record {
      near = omega (arith, past);
      planned =
          planned_on r (first_place c.args.decoded.now.profile c.args.decoded.now.items) c.loop-at.at c.in-Ok.field-0 c.loop-at.planner
          c.plan_at.new.self c.loop-at.invariant.near c.in-Ok.ensures.planned c.loop-at.invariant.planned;
    }

pub returns-clause-first : goal.returns-clause-first
returns-clause-first c =
    planned_all c.args.decoded.now c.loop-at.planner
    (omega (arith, c.len-at-end.ensures, c.loop-at-test.false, c.loop-at.invariant.near)) c.loop-at.invariant.planned
