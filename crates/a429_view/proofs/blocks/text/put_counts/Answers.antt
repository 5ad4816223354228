use Rattle.a429_word.proofs.SheetFacts.{◌▹◌}
use Rattle.a429_view.proofs.blocks.text.put_counts.Goals as goal

pub returns : goal.returns
returns g c = let asked = rw c.from.ensures at c.put_cell.ensures in asked ▹ c.put_cell-2.ensures ▹ c.put_cell-3.ensures
