use Rattle.a429_word.proofs.SheetFacts.{◌▹◌}
use Rattle.a429_view.proofs.blocks.text.put_moments.Goals as goal

pub returns : goal.returns
returns g c = c.put_cell.ensures ▹ c.put_cell-2.ensures ▹ c.put_cell-3.ensures ▹ c.put_cell-4.ensures
