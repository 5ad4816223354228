use Rattle.a429_word.proofs.SheetFacts.{◌▹◌}
use Rattle.a429_view.proofs.units.text.put_counts.Goals as goal

pub returns : goal.returns
returns g c =
    c.put_cell.ensures ▹ c.put_cell-2.ensures ▹ c.put_cell-3.ensures ▹ c.put_cell-4.ensures ▹ c.put_cell-5.ensures ▹ c.put_cell-6.ensures
