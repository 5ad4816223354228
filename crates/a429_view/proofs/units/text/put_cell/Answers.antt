use Rattle.a429_word.proofs.SheetFacts.{◌▹◌}
use Rattle.a429_view.proofs.units.text.put_cell.Goals as goal

pub returns : goal.returns
returns g c = c.put_number.ensures ▹ c.put.ensures
