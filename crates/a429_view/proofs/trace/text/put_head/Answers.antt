use Rattle.std.proofs.Common.{arith}
use Rattle.a429_word.proofs.SheetFacts.{◌▹◌}
use Rattle.a429_view.proofs.trace.text.put_head.Goals as goal

pub put_on-requires : goal.put_on-requires
put_on-requires g c = omega (arith, c.digits.ensures.most)

pub returns : goal.returns
returns g c = (rw c.digits.ensures.digits at c.put_on.ensures) ▹ c.put.ensures ▹ c.put_parts.ensures
