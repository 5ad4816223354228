use Rattle.std.proofs.Common.{take}
use Rattle.std.specs.List.{flat_map}
use Rattle.a429_word.specs.Sheet.{Says}
use Rattle.a429_record.specs.Writing.{line_text}
use Rattle.a429_commands.specs.Make.{timed}
use Rattle.a429_commands.proofs.engines.make.put_words.Given as goal

abbrev pub invariant-loop-i : goal.invariant-loop-i
invariant-loop-i g l = Says g.W.Write.contents l.initial.sheet l.sheet (flat_map line_text (timed l.first (take l.i l.words)))
