use Rattle.std.proofs.Common.{refl}
use Rattle.a429_view.proofs.SurveyFacts.{survey_a, survey_b}
use Rattle.a429_view.proofs.survey.Survey.add.Goals as goal

pub returns-in-A : goal.returns-in-A
returns-in-A c = λ es few h.
    survey_a c.args.profile.now.codes c.args.self.now _ es c.args.entry.now few c.in-A.is c.saturating_add-self.ensures
    c.first_time-self.ensures.begins c.first_time-self.ensures.stays refl refl c.add.ensures h

pub returns-in-B : goal.returns-in-B
returns-in-B c = λ es few h.
    survey_b c.args.profile.now.codes c.args.self.now _ es c.args.entry.now few c.in-B.is c.saturating_add-self.ensures
    c.first_time-self.ensures.begins c.first_time-self.ensures.stays refl refl c.add-in-B.ensures h
