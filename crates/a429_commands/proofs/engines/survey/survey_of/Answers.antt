use Rattle.std.proofs.Common.{◌++◌, ◌∷◌, [], length-append, arith}
use Rattle.a429_parts.proofs.KeepingFacts.{came_first, came_more, came_whole}
use Rattle.a429_commands.proofs.StreamingFacts.{next_earlier}
use Rattle.a429_commands.proofs.engines.survey.survey_of.Goals as goal

pub entries-init : goal.entries-init
entries-init g c = ([], c.new-survey.ensures c.args.profile.now.codes, came_first _, omega arith)

pub entries-preserved : goal.entries-preserved
entries-preserved g c =
    let so_far = c.entries.invariant in
    let e = c.in-Ok-Some.entry in
    let sum = length-append so_far.0 (e ∷ []) in
    let counts = rw c.in-Ok-Some.field-0-is at c.in-Ok-Some.ensures.counts in
    let gives = rw c.in-Ok-Some.field-0-is at c.in-Ok-Some.ensures.gives in (
      so_far.0 ++ e ∷ [],
      c.add.ensures so_far.0 (omega (arith, so_far.3, counts.0, counts.1)) so_far.1,
      came_more _ _ _ so_far.0 e gives so_far.2,
      omega (arith, sum, so_far.3, counts.0),
    )

pub returns-in-Ok-None-clause-ok : goal.returns-in-Ok-None-clause-ok
returns-in-Ok-None-clause-ok g c =
    let so_far = c.entries.invariant in
    let gives = rw c.in-Ok-None.field-0-is at c.in-Ok-None.ensures.gives in
    (so_far.0, so_far.1, came_whole _ _ _ so_far.0 gives so_far.2)

pub returns-in-Err-clause-err : goal.returns-in-Err-clause-err
returns-in-Err-clause-err g c =
    let so_far = c.entries.invariant in
    next_earlier _ _ so_far.0 _ c.in-Err.fault so_far.2 (rw c.in-Err.is at c.next_entry.ensures.err)
