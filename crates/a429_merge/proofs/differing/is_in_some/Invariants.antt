use Rattle.std.proofs.Common.{ℕ, ◌<◌}
use Rattle.a429_link.specs.Run.{IsSubsequenceOf}
use Rattle.a429_merge.specs.Order.{lists_of, words_at}
use Rattle.a429_merge.proofs.differing.is_in_some.Given as goal

abbrev pub invariant-loop-list : goal.invariant-loop-list
invariant-loop-list l = (k : ℕ) → k < l.list-index → ¬ IsSubsequenceOf l.words (words_at (lists_of l.lists) k)
