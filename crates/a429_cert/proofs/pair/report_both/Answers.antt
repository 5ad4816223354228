use Rattle.a429_cert.proofs.TriesFacts.{tries_one, tries_both}
use Rattle.a429_cert.proofs.pair.report_both.Goals as goal

pub returns-in-Err-clause-tried : goal.returns-in-Err-clause-tried
returns-in-Err-clause-tried g c = tries_one g.T.Listener.tries c.args.profile.now c.args.listener.now c.make.new.self _ c.make.ensures.tried

pub returns-clause-tried : goal.returns-clause-tried
returns-clause-tried g c =
    let tries = g.T.Listener.tries in
    let p = c.args.profile.now in
    tries_both tries p c.args.listener.now c.make.new.self c.make-2.new.self
    (tries_one tries p c.args.listener.now c.make.new.self _ c.make.ensures.tried)
    (tries_one tries p c.make.new.self c.make-2.new.self _ c.make-2.ensures.tried)
