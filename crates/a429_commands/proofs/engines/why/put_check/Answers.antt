use Rattle.a429_word.proofs.SheetFacts.{◌▹◌}
use Rattle.a429_commands.proofs.engines.why.put_check.Goals as goal

pub returns : goal.returns
returns g c = c.put.ensures ▹ c.put_hex.ensures ▹ c.put-2.ensures ▹ c.put_hex-2.ensures ▹ c.put-3.ensures
