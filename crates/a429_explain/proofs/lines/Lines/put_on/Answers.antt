use Rattle.a429_word.proofs.SheetFacts.{◌▹◌}
use Rattle.a429_explain.proofs.lines.Lines.put_on.Goals as goal

pub returns : goal.returns
returns g c = rw c.self.view_is at ((rw c.as_slice.ensures.value at c.put_notes.ensures) ▹ c.put_note.ensures)
