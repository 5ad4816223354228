use Rattle.a429_commands.specs.Series.{of_series, series_input}
use Rattle.a429_commands.proofs.EndsFacts.{and_on, ends}
use Rattle.a429_commands.proofs.SeriesVerdictFacts.{verdict_bears}
use Rattle.a429_commands.proofs.engines.series.run_series.Goals as goal

pub returns : goal.returns
returns g c =
    let i = series_input c.args.profile.now c.args.list.now (g.P.PartSource.part c.args.parts.now) in
    let before = g.P.Failing.failed c.args.parts.now in
    let after = g.P.Failing.failed c.judge_series.new.parts in
    ends (of_series i before after) c.judge_series.result
    (and_on _ _ c.judge_series.result c.judge_series.ensures.judged c.judge_series.ensures.works)
    (λ a is. verdict_bears i before after a is.0 is.1) c.judge_series.ensures.err c.write_at_once.ensures
