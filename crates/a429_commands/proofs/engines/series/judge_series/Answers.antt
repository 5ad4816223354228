use Rattle.std.proofs.Common.{◌≡◌, true}
use Rattle.a429_commands.specs.Series.{series_input}
use Rattle.a429_commands.proofs.SeriesVerdictFacts.{answer_of_profile, fault_of_profile}
use Rattle.a429_commands.proofs.engines.series.judge_series.Goals as goal

pub returns-clause-judged : goal.returns-clause-judged
returns-clause-judged g c =
    let i = series_input c.args.profile.now c.args.list.now (g.P.PartSource.part c.args.parts.now) in
    answer_of_profile i c.in_ok-profile.profile c.judge_list-answer.result c.in_ok-profile.ensures.ok c.judge_list-answer.ensures.judged

pub returns-clause-err : goal.returns-clause-err
returns-clause-err g c =
    let i = series_input c.args.profile.now c.args.list.now (g.P.PartSource.part c.args.parts.now) in
    fault_of_profile i c.in_ok-profile.profile (g.P.Failing.failed c.judge_list-answer.new.parts ≡ true) c.judge_list-answer.result
    c.in_ok-profile.ensures.ok c.judge_list-answer.ensures.err
