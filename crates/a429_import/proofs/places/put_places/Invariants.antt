use Rattle.std.proofs.Common.{take}
use Rattle.std.specs.List.{flat_map}
use Rattle.a429_word.specs.Sheet.{Says}
use Rattle.a429_import.specs.Places.{place_line}
use Rattle.a429_import.proofs.places.put_places.Given as goal

abbrev pub invariant-loop-place : goal.invariant-loop-place
invariant-loop-place g l = Says g.W.Write.contents l.fn.sheet l.sheet (flat_map place_line (take l.place-index l.places))
