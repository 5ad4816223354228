use Rattle.a429_word.proofs.SheetFacts.{◌▹◌}
use Rattle.a429_view.proofs.SurveyFacts.{times_text_some}
use Rattle.a429_view.proofs.survey.text.put_times.Goals as goal

pub returns-then-survey-gt0 : goal.returns-then-survey-gt0
returns-then-survey-gt0 g c =
    rw (times_text_some c.args.survey.now.entries c.args.survey.now.first c.args.survey.now.last c.if-survey-gt0.true)
    (c.put.ensures ▹ c.put_number.ensures ▹ c.put-then-survey-gt0.ensures ▹ c.put_number-then-survey-gt0.ensures
    ▹ c.put-then-survey-gt0-2.ensures)
