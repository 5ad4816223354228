use Rattle.std.proofs.Common.{take}
use Rattle.std.specs.Prelude.{flat_map}
use Rattle.a429_word.specs.Sheet.{Says}
use Rattle.a429_view.specs.Survey.{counted_kind, kinds}
use Rattle.a429_view.proofs.survey.text.put_kinds.Given as goal

abbrev pub invariant-loop-i : goal.invariant-loop-i
invariant-loop-i g l = Says g.W.Write.contents l.initial.sheet l.sheet (flat_map (counted_kind l.bus l.count.kinds) (take l.i kinds))
