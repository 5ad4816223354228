use Rattle.a429_word.specs.Tally.{has_failed, unread}
use Rattle.a429_commands.proofs.CheckFacts.{of_memory, under}
use Rattle.a429_commands.proofs.engines.check.told_under.Goals as goal

pub returns-clause-told : goal.returns-clause-told
returns-clause-told g c =
    under c.args.rule c.args.profile.now (unread g.R.Read.remaining c.args.rec.now) c.in_ok-entries.entries.items c.as_slice.result.now
    c.told_by.result c.found.result c.in_ok-entries.ensures.ok c.as_slice.ensures.value c.told_by.ensures c.found.ensures.ok

pub returns-clause-err : goal.returns-clause-err
returns-clause-err g c =
    of_memory (unread g.R.Read.remaining c.args.rec.now) (has_failed c.entries_of.new.rec) c.found.result c.found.ensures.err
