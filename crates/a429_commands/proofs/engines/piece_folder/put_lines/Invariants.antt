use Rattle.std.proofs.Common.{take}
use Rattle.std.specs.List.{flat_map}
use Rattle.a429_word.specs.Sheet.{Says}
use Rattle.a429_record.specs.Writing.{line_text}
use Rattle.a429_commands.proofs.engines.piece_folder.put_lines.Given as goal

abbrev pub invariant-loop-entry : goal.invariant-loop-entry
invariant-loop-entry g l = Says g.W.Write.contents l.initial.sheet l.sheet (flat_map line_text (take l.entry-index l.entries))
