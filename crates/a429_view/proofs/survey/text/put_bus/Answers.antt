use Rattle.a429_word.proofs.SheetFacts.{◌▹◌}
use Rattle.a429_view.proofs.survey.text.put_bus.Goals as goal

pub returns : goal.returns
returns g c = c.put_entries.ensures ▹ c.put_kinds.ensures ▹ c.put_labels.ensures
