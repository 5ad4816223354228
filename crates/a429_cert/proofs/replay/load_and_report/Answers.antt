use Rattle.std.proofs.Common.{rules}
use Rattle.a429_cert.proofs.ReportFacts.{not_loaded}
use Rattle.a429_cert.proofs.TriesFacts.{tries_none, tries_one}
use Rattle.a429_cert.proofs.replay.load_and_report.Goals as goal

pub returns-then-not-may_load-clause-refused : goal.returns-then-not-may_load-clause-refused
returns-then-not-may_load-clause-refused g c = λ next.
    not_loaded c.args.replay.now c.args.unit next (λ can. cc (c.if-not-may_load.true, (c.may_load.ensures c.args.unit c.requires).1 can))

pub returns-clause-heard : goal.returns-clause-heard
returns-clause-heard g c = search rules

pub returns-then-not-may_load-clause-unreported : goal.returns-then-not-may_load-clause-unreported
returns-then-not-may_load-clause-unreported g c = search rules

pub returns-then-not-may_load-clause-tried : goal.returns-then-not-may_load-clause-tried
returns-then-not-may_load-clause-tried g c = tries_none g.T.Listener.tries c.args.replay.now.profile.now c.args.listener.now

pub returns-in-Err-clause-tried : goal.returns-in-Err-clause-tried
returns-in-Err-clause-tried g c =
    tries_one g.T.Listener.tries c.args.replay.now.profile.now c.args.listener.now c.load.new.self _ c.load.ensures.tried

pub returns-clause-tried : goal.returns-clause-tried
returns-clause-tried g c =
    tries_one g.T.Listener.tries c.args.replay.now.profile.now c.args.listener.now c.load.new.self _ c.load.ensures.tried
