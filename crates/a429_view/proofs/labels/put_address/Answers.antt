use Rattle.a429_word.proofs.SheetFacts.{◌▹◌}
use Rattle.a429_view.proofs.labels.put_address.Goals as goal

pub returns : goal.returns
returns g c = (rw c.octal.ensures at c.put.ensures) ▹ c.put-2.ensures ▹ c.put_sdi.ensures
