use Rattle.std.proofs.Common.{take}
use Rattle.a429_word.specs.Sheet.{Says}
use Rattle.a429_view.specs.Picture.{rows_text}
use Rattle.a429_view.proofs.picture.put_rows.Given as goal

abbrev pub invariant-loop-i : goal.invariant-loop-i
invariant-loop-i g l = Says g.W.Write.contents l.initial.sheet l.sheet (rows_text l.profile.codes 0 (take l.i l.rows))
