use Rattle.std.proofs.Common.{take}
use Rattle.a429_word.specs.Sheet.{SaysSome}
use Rattle.a429_view.specs.Show.{AreShowLines}
use Rattle.a429_view.proofs.show.put_piece.Given as goal

abbrev pub invariant-loop-i : goal.invariant-loop-i
invariant-loop-i g l = SaysSome g.W.Write.contents l.initial.sheet l.sheet (AreShowLines l.profile (take l.i l.piece))
