use Rattle.a429_word.proofs.SheetFacts.{◌▹◌}
use Rattle.a429_commands.proofs.engines.why.put_counts.Goals as goal

pub returns : goal.returns
returns g c = c.put_entry.ensures ▹ c.put.ensures ▹ c.put_count.ensures ▹ c.put-2.ensures ▹ c.put_count-2.ensures ▹ c.put-3.ensures
