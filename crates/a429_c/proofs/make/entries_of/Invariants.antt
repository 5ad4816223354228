use Rattle.std.proofs.Common.{◌≡◌, take}
use Rattle.a429_c.specs.Make.{timed}
use Rattle.a429_c.proofs.make.entries_of.Given as goal

abbrev pub invariant-loop-i : goal.invariant-loop-i
invariant-loop-i l = l.entries.items ≡ timed 0 (take l.i l.words)
