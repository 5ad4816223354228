use Rattle.std.proofs.Common.{◌≡◌, ℕ, ◌+◌, ◌≤◌, length, slice_index}
use Rattle.a429_merge.specs.Pair.{last, merged_length}
use Rattle.a429_merge.proofs.pair.next_row.Given as goal

abbrev pub invariant-loop-n : goal.invariant-loop-n
invariant-loop-n l = record {
  long : length l.row.items ≡ l.n + 1;
  each : (k : ℕ) → k ≤ l.n → slice_index l.row.items k ≡ merged_length (last (l.m + 1) l.left) (last k l.right);
}
