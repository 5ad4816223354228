use Rattle.std.proofs.Common.{take}
use Rattle.a429_word.specs.Sheet.{Says}
use Rattle.a429_commands.specs.Forms.{form_lines}
use Rattle.a429_commands.proofs.engines.forms.put_lines.Given as goal

abbrev pub invariant-loop-entry : goal.invariant-loop-entry
invariant-loop-entry g l = Says g.W.Write.contents l.initial.sheet l.sheet (form_lines l.profile.codes (take l.entry-index l.entries))
