use Rattle.a429_word.proofs.SheetFacts.{◌▹◌}
use Rattle.a429_view.proofs.picture.put_picture.Goals as goal

pub returns : goal.returns
returns g c = c.put_head.ensures ▹ c.put_rows.ensures ▹ c.put.ensures
