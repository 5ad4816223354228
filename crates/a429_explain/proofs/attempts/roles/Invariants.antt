use Rattle.a429_explain.specs.Decoded.{forms_of}
use Rattle.a429_explain.proofs.AttemptsFacts.{Stands}
use Rattle.a429_explain.proofs.attempts.roles.Given as goal

abbrev pub invariant-loop-left : goal.invariant-loop-left
invariant-loop-left l = Stands (forms_of l.decoded.profile.codes l.decoded.items) l.left l.found.items l.ahead

abbrev pub decreases-loop-left : goal.decreases-loop-left
decreases-loop-left l = l.left
