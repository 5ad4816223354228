use Rattle.std.proofs.Common.{◌≡◌, ◌≤◌, take}
use Rattle.a429_explain.specs.Guess.{first_place}
use Rattle.a429_explain.specs.Planner.{with_roles, IsPlannedTo}
use Rattle.a429_explain.specs.Scribe.{Wrote}
use Rattle.a429_explain.specs.WithoutLoss.{IsWithoutLoss}
use Rattle.a429_explain.proofs.LeftUnits.{IsOnPlan}
use Rattle.a429_explain.proofs.checking.explain.Given as goal

abbrev pub invariant-loop-at : goal.invariant-loop-at
invariant-loop-at l = record {
  profile : l.scribe.link.profile ≡ l.decoded.profile;
  written : Wrote l.first_file (take l.at l.decoded.items) l.scribe;
  near : l.at ≤ l.planner.next;
  planned : IsPlannedTo (with_roles l.decoded) (first_place l.decoded.profile l.decoded.items) l.planner;
  plan : IsWithoutLoss l.decoded.profile l.decoded.items → IsOnPlan l.decoded.profile l.decoded.items l.at l.planner l.scribe.link;
}
