use Rattle.a429_word.proofs.SheetFacts.{◌▹◌}
use Rattle.a429_view.proofs.blocks.text.put_not_allowed.Goals as goal

pub returns : goal.returns
returns g c e h = rw h (c.put_moments.ensures ▹ c.put.ensures)
