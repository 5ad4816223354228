use Rattle.a429_word.proofs.SheetFacts.{◌▹◌}
use Rattle.a429_view.proofs.history.put_open.Goals as goal

pub returns : goal.returns
returns g c = c.put_named.ensures ▹ c.put_unit.ensures ▹ c.put_unit-2.ensures ▹ c.put.ensures
