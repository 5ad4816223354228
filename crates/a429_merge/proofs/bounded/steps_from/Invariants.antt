use Rattle.std.proofs.Common.{◌≡◌}
use Rattle.a429_merge.specs.Order.{lists_of}
use Rattle.a429_merge.proofs.HopelessFacts.{AreStepsUpTo}
use Rattle.a429_merge.proofs.bounded.steps_from.Given as goal

abbrev pub invariant-loop-i : goal.invariant-loop-i
invariant-loop-i l =
    AreStepsUpTo (lists_of l.search.lists.now) l.passed l.i l.steps.items l.others.items ×
    (l.budget.cut ≡ l.fn.budget.cut) ×
    (l.budget.entry ≡ l.fn.budget.entry)
