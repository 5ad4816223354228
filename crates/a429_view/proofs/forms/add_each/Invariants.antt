use Rattle.std.proofs.Common.{◌++◌, ◌+◌, codes, map, take, true}
use Rattle.std.specs.Fmt.{digit_glyph}
use Rattle.a429_view.specs.Line.{Adds}
use Rattle.a429_view.proofs.forms.add_each.Given as goal

abbrev pub invariant-loop-i : goal.invariant-loop-i
invariant-loop-i l = Adds l.fn.line l.line (5 + l.i) (codes "data " ++ map (digit_glyph true) (take l.i l.semis))
