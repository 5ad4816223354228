use Rattle.std.proofs.Common.{take}
use Rattle.a429_contradiction.proofs.RivalFacts.{Keeps}
use Rattle.a429_contradiction.proofs.rival.rival_of.Given as goal

abbrev pub invariant-loop-entry : goal.invariant-loop-entry
invariant-loop-entry l = Keeps l.decoded.profile (take l.entry l.decoded.items) l.attempts
