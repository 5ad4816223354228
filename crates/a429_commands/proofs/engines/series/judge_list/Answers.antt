use Rattle.std.proofs.Common.{refl, sym, subst}
use Rattle.a429_commands.specs.PartList.{ListsParts}
use Rattle.a429_commands.proofs.SeriesVerdictFacts.{answer_of_list, fault_of_list}
use Rattle.a429_commands.proofs.engines.series.judge_list.Goals as goal

pub returns-in-Ok-Some-clause-judged : goal.returns-in-Ok-Some-clause-judged
returns-in-Ok-Some-clause-judged g c =
    let read : ListsParts c.args.list.now c.in-Ok-Some.counts.items = rw c.in-Ok-Some.field-0-is at c.in-Ok-Some.ensures.some in
    let listed : ListsParts c.args.list.now c.as_slice.result.now =
    subst (ListsParts c.args.list.now) (sym c.as_slice.ensures.value) read in
    answer_of_list c.args.profile.now c.args.list.now
    (g.P.PartSource.part c.args.parts.now) c.as_slice.result.now c.judge_parts.result listed c.judge_parts.ensures.judged

pub returns-in-Ok-Some-clause-err : goal.returns-in-Ok-Some-clause-err
returns-in-Ok-Some-clause-err g c =
    let read : ListsParts c.args.list.now c.in-Ok-Some.counts.items = rw c.in-Ok-Some.field-0-is at c.in-Ok-Some.ensures.some in
    let listed : ListsParts c.args.list.now c.as_slice.result.now =
    subst (ListsParts c.args.list.now) (sym c.as_slice.ensures.value) read in
    fault_of_list c.args.profile.now c.args.list.now
    (g.P.PartSource.part c.args.parts.now) c.as_slice.result.now _ c.judge_parts.result listed c.judge_parts.ensures.err

pub returns-in-Ok-None-clause-judged : goal.returns-in-Ok-None-clause-judged
returns-in-Ok-None-clause-judged g c =
    let none = rw c.in-Ok-None.field-0-is at c.in-Ok-None.ensures.none in
    none refl
