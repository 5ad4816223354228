use Rattle.std.proofs.Common.{◌≡◌, ℕ, ◌<◌}
use Rattle.a429_merge.specs.Order.{lists_of, words_at, HasEach}
use Rattle.a429_merge.specs.Fill.{CanBeCompleted}
use Rattle.a429_merge.proofs.longest.complete_longest.Given as goal

abbrev pub invariant-loop-i : goal.invariant-loop-i
invariant-loop-i l = record {
  none : (k : ℕ) → k < l.i → HasEach (words_at (lists_of l.lists) k) (lists_of l.lists)
      → ¬ CanBeCompleted l.profile l.wanted.count l.wanted.check (words_at (lists_of l.lists) k);
  cut : l.budget.cut ≡ l.fn.budget.cut;
  entry : l.budget.entry ≡ l.fn.budget.entry;
}
