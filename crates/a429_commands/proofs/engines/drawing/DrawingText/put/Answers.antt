use Rattle.std.proofs.Common.{refl}
use Rattle.a429_commands.proofs.engines.drawing.DrawingText.put.Goals as goal

pub returns-in-Ok-clause-first : goal.returns-in-Ok-clause-first
returns-in-Ok-clause-first g c = (_, refl, rw c.in-Ok.is (rw c.rows.ensures at c.put_picture.ensures))

pub returns-in-Ok-clause-all : goal.returns-in-Ok-clause-all
returns-in-Ok-clause-all g c = λ works. (_, (rw c.in-Ok.is refl, refl), rw c.in-Ok.is (rw c.rows.ensures at c.put_picture.ensures))

pub returns-in-Err-clause-first : goal.returns-in-Err-clause-first
returns-in-Err-clause-first g c = (_, refl, rw c.in-Err.is c.put_no.ensures)

pub returns-in-Err-clause-all : goal.returns-in-Err-clause-all
returns-in-Err-clause-all g c = λ works. (_, (rw c.in-Err.is refl, refl), rw c.in-Err.is c.put_no.ensures)
