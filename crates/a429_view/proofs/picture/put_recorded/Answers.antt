use Rattle.a429_word.proofs.SheetFacts.{◌▹◌}
use Rattle.a429_view.proofs.picture.put_recorded.Goals as goal

pub returns : goal.returns
returns g c = c.put_stamp.ensures ▹ c.put_word.ensures ▹ c.put_crossing.ensures
