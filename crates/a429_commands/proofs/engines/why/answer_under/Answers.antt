use Rattle.a429_word.specs.Tally.{has_failed, unread}
use Rattle.a429_commands.proofs.WhyFacts.{of_memory, under}
use Rattle.a429_commands.proofs.engines.why.answer_under.Goals as goal

pub returns-clause-ok : goal.returns-clause-ok
returns-clause-ok g c =
    under c.args.profile.now (unread g.R.Read.remaining c.args.rec.now) c.in_ok-entries.entries.items c.as_slice.result.now
    c.answer_to.result c.in_ok-entries.ensures.ok c.as_slice.ensures.value c.answer_to.ensures.ok

pub returns-clause-err : goal.returns-clause-err
returns-clause-err g c =
    of_memory (unread g.R.Read.remaining c.args.rec.now) (has_failed c.entries_of.new.rec) c.answer_to.result c.answer_to.ensures.err
