use Rattle.a429_word.proofs.SheetFacts.{◌▹◌}
use Rattle.a429_commands.proofs.engines.why.put_entry.Goals as goal

pub returns : goal.returns
returns g c = c.put.ensures ▹ c.put_number.ensures ▹ c.put-2.ensures
