use Rattle.std.proofs.Common.{◌≡◌, ℕ, ◌+◌, ◌≤◌, [], length, slice_index_or}
use Rattle.a429_merge.specs.Order.{lists_of}
use Rattle.a429_merge.specs.Pair.{last, IsRow}
use Rattle.a429_merge.proofs.pair.merged_lengths.Given as goal

abbrev pub invariant-loop-m : goal.invariant-loop-m
invariant-loop-m l = record {
  long : length l.rows.items ≡ l.m + 1;
  each : (k : ℕ) → k ≤ l.m → IsRow (last k l.left) l.right (slice_index_or (lists_of l.rows.items) k []);
}
