use Rattle.a429_word.proofs.SheetFacts.{◌▹◌}
use Rattle.a429_view.proofs.units.text.put_size.Goals as goal

pub returns : goal.returns
returns g c = let words = rw c.from.ensures at c.put_cell.ensures in words ▹ c.put_cell-2.ensures ▹ c.put_yes_no.ensures ▹ c.put.ensures
