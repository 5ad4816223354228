use Rattle.a429_word.specs.Tally.{unread}
use Rattle.a429_commands.specs.Ends.{heard}
use Rattle.a429_commands.proofs.WhyFacts.{not_under, on}
use Rattle.a429_commands.proofs.engines.why.answer_on.Goals as goal

pub returns-clause-ok : goal.returns-clause-ok
returns-clause-ok g c =
    on c.args.profile.now c.in_ok-profile.profile
    (unread g.R.Read.remaining c.args.rec.now) c.answer_under-answer.result c.in_ok-profile.ensures.ok c.answer_under-answer.ensures.ok

pub returns-clause-err : goal.returns-clause-err
returns-clause-err g c =
    not_under c.args.profile.now c.in_ok-profile.profile (heard g.R.Read.remaining c.args.rec.now c.answer_under-answer.new.rec)
    c.answer_under-answer.result c.in_ok-profile.ensures.ok c.answer_under-answer.ensures.err
