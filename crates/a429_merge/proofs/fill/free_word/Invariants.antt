use Rattle.std.proofs.Common.{◌<◌, ◌≤◌, ◌∷◌, ℕ, List, length}
use Rattle.a429_ldu.specs.Semis.{AreSemis}
use Rattle.a429_merge.specs.Fill.{Fits, data_word}
use Rattle.a429_merge.proofs.fill.free_word.Given as goal

abbrev pub invariant-loop-size : goal.invariant-loop-size
invariant-loop-size l = record {
  most : l.size ≤ 5;
  none : (semis : List ℕ) → AreSemis semis → l.size < length semis → ¬ Fits l.profile l.wanted (data_word l.profile.codes semis ∷ l.rest);
}

abbrev pub decreases-loop-size : goal.decreases-loop-size
decreases-loop-size l = l.size
