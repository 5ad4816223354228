use Rattle.a429_word.proofs.SheetFacts.{◌▹◌}
use Rattle.a429_view.proofs.history.put_unit.Goals as goal

pub returns : goal.returns
returns g c = c.put.ensures ▹ (rw c.from.ensures at c.put_number.ensures)
