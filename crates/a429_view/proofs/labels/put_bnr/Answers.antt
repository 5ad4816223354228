use Rattle.a429_word.proofs.SheetFacts.{◌▹◌}
use Rattle.a429_view.proofs.labels.put_bnr.Goals as goal

pub returns : goal.returns
returns g c = c.put.ensures ▹ (rw c.from.ensures at c.put_number.ensures) ▹ c.put-2.ensures
    ▹ (rw c.from-2.ensures at c.put_number-2.ensures) ▹ c.put-3.ensures ▹ (rw c.from-3.ensures at c.put_number-3.ensures)
