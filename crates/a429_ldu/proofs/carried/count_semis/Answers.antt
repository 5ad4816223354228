use Rattle.a429_ldu.proofs.CarriedFacts.{none_counted, semis_counted}
use Rattle.a429_ldu.proofs.carried.count_semis.Goals as goal

pub returns-in-Some : goal.returns-in-Some
returns-in-Some c =
    rw (c.count_held.ensures, c.deref.ensures.0)
    (semis_counted c.args.profile.now.codes c.args.words.now c.new-bytes.result.items c.carry.new.bytes.items c.in-Some.low
    c.new-bytes.ensures c.in-Some.ensures.semis)

pub returns-in-None : goal.returns-in-None
returns-in-None c = none_counted c.args.profile.now.codes c.args.words.now (c.carry.ensures.none c.in-None.is)
