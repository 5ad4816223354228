use Rattle.std.proofs.Common.{take}
use Rattle.std.specs.List.{flat_map}
use Rattle.a429_word.specs.Sheet.{Says}
use Rattle.a429_view.specs.History.{open_line}
use Rattle.a429_view.proofs.history.put_others.Given as goal

abbrev pub invariant-loop-units : goal.invariant-loop-units
invariant-loop-units g l = Says g.W.Write.contents l.initial.sheet l.sheet (flat_map open_line (take l.units-index l.others))
