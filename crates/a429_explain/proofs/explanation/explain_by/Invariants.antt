use Rattle.std.proofs.Common.{◌≡◌, take, drop}
use Rattle.a429_cert.specs.Explained.{items_of}
use Rattle.a429_explain.specs.Guess.{decoded, IsOfCrossing}
use Rattle.a429_explain.specs.Scribe.{Wrote}
use Rattle.a429_explain.specs.Plan.{ArePlans, plans_after}
use Rattle.a429_explain.proofs.ScribeWithoutLoss.{OnPlan}
use Rattle.a429_explain.proofs.explanation.explain_by.Given as goal

abbrev pub invariant-loop-at : goal.invariant-loop-at
invariant-loop-at l = record {
  profile : l.scribe.link.profile ≡ l.profile;
  plans : ArePlans l.profile l.plans.items;
  written : Wrote l.fn.guess.first_file (take l.at (items_of l.entries)) l.scribe;
  left : l.plans.items ≡ plans_after (take l.at l.fn.guess.roles.items) 0 l.fn.guess.plans.items;
  plan : IsOfCrossing (decoded l.profile (items_of l.entries)) l.fn.guess
      → OnPlan l.profile (drop l.at (items_of l.entries)) l.at l.plans.items l.scribe.link;
}
