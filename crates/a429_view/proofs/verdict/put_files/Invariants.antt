use Rattle.std.proofs.Common.{take}
use Rattle.std.specs.List.{flat_map}
use Rattle.a429_word.specs.Sheet.{Says}
use Rattle.a429_view.specs.Verdict.{line_of_file}
use Rattle.a429_view.proofs.verdict.put_files.Given as goal

abbrev pub invariant-loop-file : goal.invariant-loop-file
invariant-loop-file g l = Says g.W.Write.contents l.initial.sheet l.sheet (flat_map line_of_file (take l.file-index l.files))
