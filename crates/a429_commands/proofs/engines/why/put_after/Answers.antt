use Rattle.a429_word.proofs.SheetFacts.{◌▹◌}
use Rattle.a429_commands.proofs.engines.why.put_after.Goals as goal

pub returns : goal.returns
returns g c = c.put_entry.ensures ▹ c.put.ensures ▹ c.put_number.ensures ▹ c.put-2.ensures ▹ c.put_number-2.ensures ▹ c.put-3.ensures
