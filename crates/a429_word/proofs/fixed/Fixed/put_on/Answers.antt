use Rattle.a429_word.proofs.fixed.Fixed.put_on.Goals as goal

pub returns : goal.returns
returns g c = (_, c.put_into.ensures, rw c.as_slice.ensures at c.put.ensures)
