use Rattle.std.proofs.Common.{◌≡◌, ℕ, ◌<◌}
use Rattle.a429_merge.specs.Order.{lists_of, IsNext, IsFree}
use Rattle.a429_merge.proofs.order.free_word.Given as goal

abbrev pub invariant-loop-i : goal.invariant-loop-i
invariant-loop-i l = record {
  none : (k : ℕ) → k < l.i → (w : ℕ) → IsNext (lists_of l.lists) l.passed k w → ¬ IsFree (lists_of l.lists) l.passed w;
  cut : l.budget.cut ≡ l.fn.budget.cut;
  entry : l.budget.entry ≡ l.fn.budget.entry;
}
