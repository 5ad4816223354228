use Rattle.a429_word.proofs.SheetFacts.{◌▹◌}
use Rattle.a429_commands.proofs.engines.why.put_number.Goals as goal

pub returns : goal.returns
returns g c = c.put_count.ensures ▹ c.put.ensures ▹ (rw c.from.ensures at c.put_number.ensures)
