use Rattle.std.proofs.Common.{◌≡◌, ◌≤◌, ◌-◌, length, take, map}
use Rattle.a429_word.specs.Screening.{screened}
use Rattle.a429_word.proofs.screening.screen_vectors.Given as goal

abbrev pub invariant-loop-at : goal.invariant-loop-at
invariant-loop-at l = (l.at ≤ length l.words) × (take l.at l.out ≡ map (screened l.label) (take l.at l.words))

abbrev pub decreases-loop-at : goal.decreases-loop-at
decreases-loop-at l = length l.words - l.at
