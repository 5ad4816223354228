use Rattle.a429_contradiction.proofs.ContradictionFacts.{on_ok, taken_if}
use Rattle.a429_contradiction.proofs.contradiction.Witness.take.Goals as goal

pub returns-clause-observer : goal.returns-clause-observer
returns-clause-observer c = on_ok c.take.result (taken_if c.see.result c.see.ensures.allowed c.see.ensures.taken)
