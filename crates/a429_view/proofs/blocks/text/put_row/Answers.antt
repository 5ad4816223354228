use Rattle.a429_word.proofs.SheetFacts.{◌▹◌}
use Rattle.a429_view.proofs.blocks.text.put_row.Goals as goal

pub returns : goal.returns
returns g c =
    let why = rw c.why_cell.ensures at c.put-3.ensures in
    c.put_moments.ensures ▹ c.put_unit.ensures ▹ c.put_counts.ensures ▹ c.put.ensures ▹ c.put-2.ensures ▹ why ▹ c.put-4.ensures
