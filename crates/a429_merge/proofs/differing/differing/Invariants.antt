use Rattle.std.proofs.Common.{◌≡◌, ℕ, ◌<◌, ◌≤◌, List, length}
use Rattle.a429_link.specs.Run.{IsSubsequenceOf}
use Rattle.a429_merge.specs.Order.{lists_of, words_at, HasEach}
use Rattle.a429_merge.proofs.differing.differing.Given as goal

abbrev pub invariant-loop-list : goal.invariant-loop-list
invariant-loop-list l = record {
  all : (zs : List ℕ)
      → HasEach zs (lists_of l.kept.items) → (k : ℕ) → k < l.list-index → IsSubsequenceOf (words_at (lists_of l.lists) k) zs;
  only : (zs : List ℕ) → HasEach zs (lists_of l.lists) → HasEach zs (lists_of l.kept.items);
  few : length l.kept.items ≤ 16;
  most : length l.kept.items ≤ l.list-index;
  cut : l.budget.cut ≡ l.fn.budget.cut;
  entry : l.budget.entry ≡ l.fn.budget.entry;
}
