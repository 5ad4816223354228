use Rattle.a429_word.proofs.SheetFacts.{◌▹◌}
use Rattle.a429_view.proofs.history.put_history.Goals as goal

pub returns : goal.returns
returns g c = c.put_pieces.ensures ▹ c.put.ensures
