use Rattle.a429_word.proofs.SheetFacts.{◌▹◌}
use Rattle.a429_commands.proofs.engines.forms.put_entry.Goals as goal

pub returns : goal.returns
returns g c = c.put_parts.ensures ▹ c.put_what.ensures ▹ c.put.ensures
