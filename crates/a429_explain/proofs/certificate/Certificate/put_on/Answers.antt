use Rattle.a429_word.proofs.SheetFacts.{◌▹◌}
use Rattle.a429_explain.proofs.certificate.Certificate.put_on.Goals as goal

pub returns : goal.returns
returns g c = rw c.self.view_is at ((rw c.first_line.ensures at c.put.ensures) ▹ (c.put_on.ensures ▹ c.put-2.ensures))
