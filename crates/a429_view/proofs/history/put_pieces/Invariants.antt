use Rattle.std.proofs.Common.{take}
use Rattle.a429_word.specs.Sheet.{Says}
use Rattle.a429_view.specs.History.{history_text}
use Rattle.a429_view.proofs.history.put_pieces.Given as goal

abbrev pub invariant-loop-place : goal.invariant-loop-place
invariant-loop-place g l = Says g.W.Write.contents l.initial.sheet l.sheet (history_text l.profile.codes 1 (take l.place l.told))
