use Rattle.std.proofs.Common.{ℕ, ◌<◌}
use Rattle.a429_merge.specs.Order.{lists_of, IsNext}
use Rattle.a429_merge.proofs.bounded.is_first.Given as goal

abbrev pub invariant-loop-j : goal.invariant-loop-j
invariant-loop-j l = (k : ℕ) → k < l.j → ¬ IsNext (lists_of l.lists) l.passed k l.word
