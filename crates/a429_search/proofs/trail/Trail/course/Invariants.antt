use Rattle.a429_explain.specs.Plan.{ArePlans}
use Rattle.a429_search.proofs.trail.Trail.course.Given as goal

abbrev pub invariant-loop : goal.invariant-loop
invariant-loop l = ArePlans l.profile l.plans.items
