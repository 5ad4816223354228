use Rattle.a429_word.specs.Tally.{unread}
use Rattle.a429_commands.proofs.SeriesVerdictFacts.{all_known, none_known}
use Rattle.a429_commands.proofs.engines.series.add_part.Goals as goal

pub returns-in-Ok-clause-ok : goal.returns-in-Ok-clause-ok
returns-in-Ok-clause-ok g c =
    all_known (g.P.PartSource.part c.args.parts.now c.args.place) (unread g.C.Read.remaining c.in-Ok.part.cert) c.in-Ok.part.rec.to_come
    c.args.series c.add_open.result c.in-Ok.ensures.opened c.add_open.ensures.ok

pub returns-in-Ok-clause-err : goal.returns-in-Ok-clause-err
returns-in-Ok-clause-err g c =
    none_known (g.P.PartSource.part c.args.parts.now c.args.place) (unread g.C.Read.remaining c.in-Ok.part.cert) c.in-Ok.part.rec.to_come
    c.args.series c.add_open.result c.in-Ok.ensures.opened c.add_open.ensures.err
