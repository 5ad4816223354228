use Rattle.std.proofs.Common.{IfSome}
use Rattle.a429_contradiction.specs.Against.{IsWordAt}
use Rattle.a429_contradiction.proofs.against.last_of.Given as goal

abbrev pub invariant-loop-entry : goal.invariant-loop-entry
invariant-loop-entry l = IfSome l.found (λ k. IsWordAt l.before.items k l.word)
