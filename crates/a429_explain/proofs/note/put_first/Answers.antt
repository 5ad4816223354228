use Rattle.a429_word.proofs.SheetFacts.{◌▹◌}
use Rattle.a429_explain.proofs.note.put_first.Goals as goal

pub returns : goal.returns
returns g c = c.put.ensures ▹ (rw c.from.ensures at c.put_number.ensures)
