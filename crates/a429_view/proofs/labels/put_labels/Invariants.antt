use Rattle.std.proofs.Common.{take}
use Rattle.a429_word.specs.Sheet.{Says}
use Rattle.a429_view.specs.Labels.{label_lines}
use Rattle.a429_view.proofs.labels.put_labels.Given as goal

abbrev pub invariant-loop-i : goal.invariant-loop-i
invariant-loop-i g l = Says g.W.Write.contents l.initial.sheet l.sheet (label_lines (take l.i l.profile.labels))
