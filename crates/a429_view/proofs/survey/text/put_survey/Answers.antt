use Rattle.a429_word.proofs.SheetFacts.{◌▹◌}
use Rattle.a429_view.proofs.survey.text.put_survey.Goals as goal

pub returns : goal.returns
returns g c = c.put.ensures ▹ c.put_number.ensures ▹ c.put-2.ensures ▹ c.put_times.ensures ▹ c.put_bus.ensures ▹ c.put_bus-2.ensures
