use Rattle.a429_word.proofs.SheetFacts.{◌▹◌}
use Rattle.a429_view.proofs.word.put_line.Goals as goal

pub returns : goal.returns
returns g c = (rw c.as_bytes.ensures.value at c.put.ensures) ▹ c.put-2.ensures ▹ c.put-3.ensures ▹ c.put-4.ensures
