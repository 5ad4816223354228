use Rattle.a429_view.proofs.LineFacts.{◌▹◌}
use Rattle.a429_view.proofs.trace.text.add_else_form.Goals as goal

pub returns-in-Some : goal.returns-in-Some
returns-in-Some c = rw c.in-Some.is (c.put.ensures ▹ c.add_form.ensures)
