use Rattle.a429_word.specs.Sheet.{Says}
use Rattle.a429_view.specs.Survey.{counted_labels}
use Rattle.a429_view.proofs.survey.text.put_labels.Given as goal

abbrev pub invariant-loop-label : goal.invariant-loop-label
invariant-loop-label g l = Says g.W.Write.contents l.initial.sheet l.sheet (counted_labels l.bus l.label l.count.labels)
