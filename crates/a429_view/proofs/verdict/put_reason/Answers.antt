use Rattle.a429_word.proofs.SheetFacts.{◌▹◌}
use Rattle.a429_view.proofs.verdict.put_reason.Goals as goal

pub returns : goal.returns
returns g c = c.put.ensures ▹ c.put_number.ensures ▹ c.put-2.ensures
