use Rattle.std.proofs.Common.{take}
use Rattle.std.specs.List.{flat_map}
use Rattle.a429_word.specs.Sheet.{Says}
use Rattle.a429_commands.specs.Trace.{size_line}
use Rattle.a429_commands.proofs.engines.trace.put_sizes.Given as goal

abbrev pub invariant-loop-file : goal.invariant-loop-file
invariant-loop-file g l = Says g.W.Write.contents l.initial.sheet l.sheet (flat_map size_line (take l.file-index l.files))
