use Rattle.std.proofs.Common.{◌≡◌}
use Rattle.a429_merge.specs.Order.{lists_of}
use Rattle.a429_merge.proofs.OrderFacts.{Merging, left_count}
use Rattle.a429_merge.proofs.order.merge_in_one_order.Given as goal

abbrev pub invariant-loop-word : goal.invariant-loop-word
invariant-loop-word l = record {
  merging : Merging (lists_of l.lists) l.passed.items l.merged.items;
  cut : l.budget.cut ≡ l.fn.budget.cut;
  entry : l.budget.entry ≡ l.fn.budget.entry;
}

abbrev pub decreases-loop-word : goal.decreases-loop-word
decreases-loop-word l = left_count (lists_of l.lists) l.passed.items
