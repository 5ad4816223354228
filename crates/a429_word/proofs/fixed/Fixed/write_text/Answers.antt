use Rattle.std.proofs.lemmas.Result.{on_ok_weaker}
use Rattle.a429_word.proofs.fixed.Fixed.write_text.Goals as goal

pub returns-clause-ok : goal.returns-clause-ok
returns-clause-ok g c = on_ok_weaker c.put.result (λ put. (_, c.put_into.ensures, rw c.as_slice.ensures at put)) c.put.ensures.ok

pub returns-clause-device : goal.returns-clause-device
returns-clause-device g c = c.put.ensures.device
