use Rattle.a429_word.proofs.SheetFacts.{◌▹◌}
use Rattle.a429_view.proofs.units.text.put_row.Goals as goal

pub returns : goal.returns
returns g c =
    let number = rw c.from.ensures at c.put_cell.ensures ▹ rw c.from-2.ensures at c.put_cell-2.ensures in
    number ▹ c.put_size.ensures ▹ c.put_counts.ensures ▹ c.put_span.ensures ▹ c.put.ensures
