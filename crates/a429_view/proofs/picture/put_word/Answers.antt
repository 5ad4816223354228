use Rattle.a429_word.proofs.SheetFacts.{◌▹◌}
use Rattle.a429_view.proofs.picture.put_word.Goals as goal

pub returns : goal.returns
returns g c = let line = rw c.line_text.ensures at c.put.ensures in line ▹ c.put_what.ensures ▹ c.put-2.ensures
