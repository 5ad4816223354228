use Rattle.std.proofs.Common.{◌≡◌, ◌<◌, ◌≤◌, ℕ, length, Some, slice_get}
use Rattle.a429_search.specs.declared.searching.Hypothesis.{Hypothesis}
use Rattle.a429_search.specs.Standing.{all_give_ups}
use Rattle.a429_search.proofs.searching.fewest.Given as goal

abbrev pub invariant-loop-place : goal.invariant-loop-place
invariant-loop-place l = (l.best < length l.hypotheses) × ((b : Hypothesis) → slice_get l.hypotheses l.best ≡ Some b
    → (k : ℕ) (h : Hypothesis) → k < l.place → slice_get l.hypotheses k ≡ Some h → all_give_ups b.standing ≤ all_give_ups h.standing)
