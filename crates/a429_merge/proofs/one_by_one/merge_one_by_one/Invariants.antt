use Rattle.std.proofs.Common.{◌≡◌, ℕ, ◌<◌, ◌≤◌, length, take, sum_by}
use Rattle.a429_link.specs.Run.{IsSubsequenceOf}
use Rattle.a429_merge.specs.Order.{lists_of, words_at}
use Rattle.a429_merge.proofs.one_by_one.merge_one_by_one.Given as goal

abbrev pub invariant-loop-list : goal.invariant-loop-list
invariant-loop-list l = record {
  each : (k : ℕ) → k < l.list-index → IsSubsequenceOf (words_at (lists_of l.lists) k) l.merged.items;
  few : length l.merged.items ≤ sum_by (λ list. length list.items) (take l.list-index l.lists);
  cut : l.budget.cut ≡ l.fn.budget.cut;
  entry : l.budget.entry ≡ l.fn.budget.entry;
}
