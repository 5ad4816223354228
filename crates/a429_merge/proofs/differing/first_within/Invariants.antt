use Rattle.std.proofs.Common.{ℕ, ◌<◌}
use Rattle.a429_link.specs.Run.{IsSubsequenceOf}
use Rattle.a429_merge.specs.Order.{lists_of, words_at}
use Rattle.a429_merge.proofs.differing.first_within.Given as goal

abbrev pub invariant-loop-i : goal.invariant-loop-i
invariant-loop-i l = (k : ℕ) → k < l.i → ¬ IsSubsequenceOf (words_at (lists_of l.lists) k) l.words
