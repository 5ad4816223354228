use Rattle.a429_word.proofs.SheetFacts.{◌▹◌}
use Rattle.a429_view.proofs.verdict.put_yes.Goals as goal

pub returns : goal.returns
returns g c = c.put_count.ensures ▹ c.put_sizes.ensures
