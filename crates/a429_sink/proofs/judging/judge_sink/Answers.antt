use Rattle.a429_parts.specs.Keeping.{taken}
use Rattle.a429_sink.proofs.JudgingFacts.{says_yes}
use Rattle.a429_sink.proofs.judging.judge_sink.Goals as goal

pub see_all-requires : goal.see_all-requires
see_all-requires g c = c.new-trace.ensures c.args.profile.now

pub returns-in-Ok-None-clause-verdict : goal.returns-in-Ok-None-clause-verdict
returns-in-Ok-None-clause-verdict g c =
    rw c.into_files.ensures
    (says_yes c.args.profile.now c.see_all.ensures.sound (taken c.args.rec.now c.see_all.new.rec) c.see_all.new.trace
    (rw c.in-Ok-None.field-0-is at c.in-Ok-None.ensures.sees))
