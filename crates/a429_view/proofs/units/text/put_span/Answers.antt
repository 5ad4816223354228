use Rattle.a429_word.proofs.SheetFacts.{◌▹◌}
use Rattle.a429_view.proofs.units.text.put_span.Goals as goal

pub returns : goal.returns
returns g c =
    let entries = rw c.entry_of.ensures at c.put_cell_of.ensures ▹ rw c.entry_of-2.ensures at c.put_cell_of-2.ensures in
    let times = rw c.time_of.ensures at c.put_cell_of-3.ensures in
    entries ▹ times ▹ rw c.time_of-2.ensures at c.put_cell_of-4.ensures ▹ c.put_yes_no.ensures
