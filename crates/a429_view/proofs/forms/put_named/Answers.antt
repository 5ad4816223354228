use Rattle.a429_word.proofs.SheetFacts.{◌▹◌}
use Rattle.a429_view.proofs.forms.put_named.Goals as goal

pub returns : goal.returns
returns g c = c.put.ensures ▹ rw c.from.ensures at c.put_number.ensures
