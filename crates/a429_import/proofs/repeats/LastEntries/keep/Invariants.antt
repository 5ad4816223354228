use Rattle.std.proofs.Common.{◌≡◌, take, length}
use Rattle.a429_import.proofs.repeats.LastEntries.keep.Given as goal

abbrev pub invariant-loop-self : goal.invariant-loop-self
invariant-loop-self l = take l.most l.self ≡ take l.most l.fn.self

abbrev pub decreases-loop-self : goal.decreases-loop-self
decreases-loop-self l = length l.self
