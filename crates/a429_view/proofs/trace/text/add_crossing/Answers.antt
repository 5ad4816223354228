use Rattle.a429_view.proofs.LineFacts.{◌▹◌}
use Rattle.a429_view.proofs.trace.text.add_crossing.Goals as goal

pub returns-in-Some : goal.returns-in-Some
returns-in-Some c = rw c.in-Some.is (c.add_named.ensures ▹ c.put.ensures ▹ c.put_number.ensures ▹ c.put-in-Some.ensures)
