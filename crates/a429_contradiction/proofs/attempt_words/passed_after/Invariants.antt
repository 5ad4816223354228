use Rattle.a429_contradiction.proofs.AttemptWordsFacts.{IsSoFar}
use Rattle.a429_contradiction.proofs.attempt_words.passed_after.Given as goal

abbrev pub invariant-loop-at : goal.invariant-loop-at
invariant-loop-at l = IsSoFar l.word l.words l.passed l.at
