use Rattle.a429_view.proofs.SurveyFacts.{text_is}
use Rattle.a429_view.proofs.laws.a_survey_has_the_text_of_its_entries.Goals as goal

pub returns : goal.returns
returns c = text_is
