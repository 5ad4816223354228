use Rattle.std.proofs.Common.{◌∙◌}
use Rattle.a429_word.proofs.SheetFacts.{◌▹◌}
use Rattle.a429_explain.proofs.note.put_move.Goals as goal

pub returns : goal.returns
returns g c = c.put.ensures ▹ (rw (c.as_slice.ensures ∙ c.moved_text-text.ensures) at c.put-2.ensures)
