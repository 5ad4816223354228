use Rattle.std.proofs.Common.{◌≡◌, ◌∙◌, ◌+◌, length, get_or, true, arith, subst}
use Rattle.a429_cert.proofs.SeriesRun.{parts_one_run}
use Rattle.a429_commands.proofs.SeriesVerdictFacts.{SoFar, all_fit, at_next, by_part, goes_on, miscounted_at, refusal_answers, refusal_faults, refusal_works, refused_at}
use Rattle.a429_commands.proofs.engines.series.judge_parts.Goals as goal

pub returns-in-Err-clause-judged : goal.returns-in-Err-clause-judged
returns-in-Err-clause-judged g c =
    let part = g.P.PartSource.part c.args.parts.now in
    let v = c.parts.invariant in
    refusal_answers c.args.profile.now part c.args.counts.now c.refused.result (c.parts.place + 1) c.in-Err.fault c.refused.ensures.ok
    (refused_at c.args.profile.now part c.args.counts.now c.parts.place c.parts.count-index c.parts.series c.in-Err.fault v.place
    c.parts-test.true v.so_far
    (at_next part (g.P.PartSource.part c.parts.parts) c.parts.place c.parts.count-index _ v.same v.place c.in-Err.ensures.err))

pub returns-in-Err-clause-works : goal.returns-in-Err-clause-works
returns-in-Err-clause-works g c =
    refusal_works c.refused.result (c.parts.place + 1) c.in-Err.fault _ c.refused.ensures.ok (λ f e h. c.in-Err.ensures.refused f e)

pub returns-in-Err-clause-err : goal.returns-in-Err-clause-err
returns-in-Err-clause-err g c =
    let part = g.P.PartSource.part c.args.parts.now in
    let v = c.parts.invariant in
    let Failed = g.P.Failing.failed c.add_part.new.parts ≡ true in
    refusal_faults c.args.profile.now part c.args.counts.now Failed c.refused.result c.in-Err.fault c.refused.ensures.err
    (by_part c.args.profile.now part c.args.counts.now Failed (c.parts.place + 1) c.in-Err.fault
    (refused_at c.args.profile.now part c.args.counts.now c.parts.place c.parts.count-index c.parts.series c.in-Err.fault v.place
    c.parts-test.true v.so_far
    (at_next part (g.P.PartSource.part c.parts.parts) c.parts.place c.parts.count-index _ v.same v.place c.in-Err.ensures.err))
    (λ e. c.in-Err.ensures.device (cc e)) (λ e. c.in-Err.ensures.read (cc e)))

pub returns-then-entries-count-clause-judged : goal.returns-then-entries-count-clause-judged
returns-then-entries-count-clause-judged g c =
    let part = g.P.PartSource.part c.args.parts.now in
    let v = c.parts.invariant in
    miscounted_at c.args.profile.now part c.args.counts.now c.parts.place c.parts.count-index c.entries-entries.result c.parts.series
    c.in-Ok.series v.place c.entries-entries.ensures c.parts-test.true
    (λ same. absurd (omega (arith, c.if-entries-count.true, same))) v.so_far
    (at_next part (g.P.PartSource.part c.parts.parts) c.parts.place c.parts.count-index _ v.same v.place c.in-Ok.ensures.ok)

pub parts-preserved : goal.parts-preserved
parts-preserved g c =
    let part = g.P.PartSource.part c.args.parts.now in
    let v = c.parts.invariant in
    let same : c.in-Ok.series.entries ≡ get_or c.args.counts.now c.parts.count-index 0 =
    omega (arith, c.if-entries-count.false, c.entries-entries.ensures) in
    record {
      same = c.in-Ok.ensures.same ∙ v.same;
      works = λ h. c.in-Ok.ensures.works;
      so_far =
          goes_on c.args.profile.now part c.args.counts.now c.parts.count-index c.parts.series c.in-Ok.series c.parts-test.true same
          v.so_far
          (at_next part (g.P.PartSource.part c.parts.parts) c.parts.place c.parts.count-index _ v.same v.place c.in-Ok.ensures.ok);
      place = omega (arith, v.place);
    }

pub returns-clause-judged : goal.returns-clause-judged
returns-clause-judged g c =
    let part = g.P.PartSource.part c.args.parts.now in
    let v = c.parts.invariant in
    let end : c.parts.count-index ≡ length c.args.counts.now = omega (arith, c.parts-test.false) in
    rw c.into_files.ensures
    (all_fit c.args.profile.now part c.args.counts.now c.parts.series
    (λ parts t a. parts_one_run c.args.profile.now c.codes-codes.ensures.sound parts t a)
    (subst (λ i. SoFar c.args.profile.now part c.args.counts.now i c.parts.series) end v.so_far))
