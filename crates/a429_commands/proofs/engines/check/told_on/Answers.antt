use Rattle.a429_word.specs.Tally.{unread}
use Rattle.a429_commands.specs.Ends.{heard}
use Rattle.a429_commands.proofs.CheckFacts.{not_under, on}
use Rattle.a429_commands.proofs.engines.check.told_on.Goals as goal

pub returns-clause-told : goal.returns-clause-told
returns-clause-told g c =
    on c.args.rule c.args.profile.now c.in_ok-profile.profile
    (unread g.R.Read.remaining c.args.rec.now) c.told_under-told.result c.in_ok-profile.ensures.ok c.told_under-told.ensures.told

pub returns-clause-err : goal.returns-clause-err
returns-clause-err g c =
    not_under c.args.profile.now c.in_ok-profile.profile (heard g.R.Read.remaining c.args.rec.now c.told_under-told.new.rec)
    c.told_under-told.result c.in_ok-profile.ensures.ok c.told_under-told.ensures.err
