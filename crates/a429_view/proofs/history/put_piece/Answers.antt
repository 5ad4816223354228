use Rattle.a429_word.proofs.SheetFacts.{◌▹◌}
use Rattle.a429_view.proofs.history.put_piece.Goals as goal

pub returns : goal.returns
returns g c = c.put_part.ensures ▹ c.put_begun.ensures ▹ c.put_stop.ensures ▹ (rw c.as_slice.ensures.value at c.put_files.ensures)
    ▹ (rw c.as_slice-2.ensures.value at c.put_others.ensures)
