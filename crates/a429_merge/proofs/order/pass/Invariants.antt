use Rattle.std.proofs.Common.{◌≡◌, ℕ, ◌<◌, ◌≤◌, slice_index}
use Rattle.a429_merge.specs.Order.{lists_of, words_at, passed_with}
use Rattle.a429_merge.proofs.order.pass.Given as goal

abbrev pub invariant-loop-i : goal.invariant-loop-i
invariant-loop-i l = record {
  passed : (k : ℕ) → k < l.i → slice_index l.passed k ≡ passed_with (words_at (lists_of l.lists) k) (slice_index l.initial.passed k) l.word;
  others : (k : ℕ) → l.i ≤ k → slice_index l.passed k ≡ slice_index l.initial.passed k;
}
