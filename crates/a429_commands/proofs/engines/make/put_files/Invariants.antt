use Rattle.std.proofs.Common.{map, take}
use Rattle.a429_word.specs.Sheet.{Says}
use Rattle.a429_record.specs.Writing.{written_form}
use Rattle.a429_commands.specs.Make.{timed, words_made}
use Rattle.a429_commands.proofs.MakeWords.{AreMade}
use Rattle.a429_commands.proofs.engines.make.put_files.Given as goal

abbrev pub invariant-loop-file : goal.invariant-loop-file
invariant-loop-file g l = record {
  made : AreMade l.profile (map (λ f. f.items) l.files) l.file-index l.number l.count;
  written : Says g.W.Write.contents l.fn.sheet l.sheet
      (written_form (timed 0 (take l.count (words_made l.profile (map (λ f. f.items) l.files)))));
}
