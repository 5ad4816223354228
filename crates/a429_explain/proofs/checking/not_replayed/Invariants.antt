use Rattle.std.proofs.Common.{◌≤◌}
use Rattle.a429_explain.specs.Guess.{first_place}
use Rattle.a429_explain.specs.Planner.{with_roles, IsPlannedTo}
use Rattle.a429_explain.proofs.checking.not_replayed.Given as goal

abbrev pub invariant-loop-at : goal.invariant-loop-at
invariant-loop-at l = record {
  near : l.at ≤ l.planner.next;
  planned : IsPlannedTo (with_roles l.decoded) (first_place l.decoded.profile l.decoded.items) l.planner;
}
