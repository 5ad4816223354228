use Rattle.std.proofs.Common.{◌≡◌, ℕ, ◌<◌, length, slice_index}
use Rattle.a429_merge.proofs.pair.first_row.Given as goal

abbrev pub invariant-loop-n : goal.invariant-loop-n
invariant-loop-n l = record {
  long : length l.row.items ≡ l.n;
  each : (k : ℕ) → k < l.n → slice_index l.row.items k ≡ k;
}
