use Rattle.a429_contradiction.proofs.AgainstFacts.{Watches}
use Rattle.a429_contradiction.proofs.against.held_after.Given as goal

abbrev pub invariant-loop-entry : goal.invariant-loop-entry
invariant-loop-entry l =
    Watches l.before.profile l.before.items l.entry l.watch.witness.observer l.watch.witness.so_far l.watch.witness.parts l.watch.sink
    l.watch.acked
