use Rattle.std.proofs.lemmas.Result.{err_from_is_err_and, IfOk-weaker, IfErr-weaker}
use Rattle.a429_commands.proofs.SurveyFacts.{surveyed, uncounted, unprofiled}
use Rattle.a429_commands.proofs.engines.survey.counted.Goals as goal

pub returns-in_err-profile-clause-err : goal.returns-in_err-profile-clause-err
returns-in_err-profile-clause-err g c =
    let p = err_from_is_err_and c.from_residual.result c.from_residual.ensures.1 in
    rw (p.1, p.2) (unprofiled c.args.profile.now c.args.rec.now.to_come _ _ c.in_err-profile.ensures.err)

pub returns-clause-ok : goal.returns-clause-ok
returns-clause-ok g c =
    IfOk-weaker c.survey_of-survey.result _ _
    (λ s h. surveyed c.args.profile.now c.in_ok-profile.profile c.args.rec.now.to_come s c.in_ok-profile.ensures.ok h)
    c.survey_of-survey.ensures.ok

pub returns-clause-err : goal.returns-clause-err
returns-clause-err g c =
    IfErr-weaker c.survey_of-survey.result _ _
    (λ e h. uncounted c.args.profile.now c.in_ok-profile.profile c.args.rec.now.to_come _ e c.in_ok-profile.ensures.ok h)
    c.survey_of-survey.ensures.err
