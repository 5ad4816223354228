use Rattle.a429_contradiction.proofs.ContradictionFacts.{Witnesses}
use Rattle.a429_contradiction.proofs.contradiction.first_contradiction.Given as goal

abbrev pub invariant-loop-entry : goal.invariant-loop-entry
invariant-loop-entry l = Witnesses l.decoded.profile l.decoded.items l.entry l.witness.observer l.witness.so_far l.witness.parts
