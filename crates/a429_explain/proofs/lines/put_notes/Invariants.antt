use Rattle.std.proofs.Common.{take}
use Rattle.std.specs.List.{flat_map}
use Rattle.a429_word.specs.Sheet.{Says}
use Rattle.a429_explain.specs.Note.{note_text}
use Rattle.a429_explain.proofs.lines.put_notes.Given as goal

abbrev pub invariant-loop-note : goal.invariant-loop-note
invariant-loop-note g l = Says g.W.Write.contents l.initial.sheet l.sheet (flat_map note_text (take l.note-index l.notes))
