use Rattle.std.proofs.Common.{◌≡◌, ℕ, ◌<◌}
use Rattle.a429_link.specs.Run.{IsSubsequenceOf}
use Rattle.a429_merge.specs.Order.{lists_of, words_at}
use Rattle.a429_merge.proofs.longest.has_each.Given as goal

abbrev pub invariant-loop-i : goal.invariant-loop-i
invariant-loop-i l = record {
  each : (k : ℕ) → k < l.i → IsSubsequenceOf (words_at (lists_of l.lists) k) l.words;
  cut : l.budget.cut ≡ l.fn.budget.cut;
  entry : l.budget.entry ≡ l.fn.budget.entry;
}
