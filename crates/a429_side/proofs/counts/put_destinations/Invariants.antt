use Rattle.a429_word.specs.Sheet.{Says}
use Rattle.a429_side.specs.Counts.{destination_lines}
use Rattle.a429_side.proofs.counts.put_destinations.Given as goal

abbrev pub invariant-loop-code : goal.invariant-loop-code
invariant-loop-code g l = Says g.W.Write.contents l.initial.sheet l.sheet (destination_lines l.code l.counts)
