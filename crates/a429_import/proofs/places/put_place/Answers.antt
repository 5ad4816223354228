use Rattle.a429_word.proofs.SheetFacts.{◌▹◌}
use Rattle.a429_import.proofs.places.put_place.Goals as goal

pub returns : goal.returns
returns g c = (rw c.name_of.ensures at c.put.ensures) ▹ c.put_number.ensures ▹ c.put-2.ensures ▹ c.put_number-2.ensures ▹ c.put_jump.ensures
