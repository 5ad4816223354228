use Rattle.std.proofs.Common.{◌≡◌, ℕ, ◌<◌, slice_index}
use Rattle.a429_merge.specs.Order.{lists_of, words_at, IsLater}
use Rattle.a429_merge.proofs.order.is_free.Given as goal

abbrev pub invariant-loop-i : goal.invariant-loop-i
invariant-loop-i l = record {
  none : (k : ℕ) → k < l.i → ¬ IsLater (words_at (lists_of l.lists) k) (slice_index l.passed k) l.word;
  cut : l.budget.cut ≡ l.fn.budget.cut;
  entry : l.budget.entry ≡ l.fn.budget.entry;
}
