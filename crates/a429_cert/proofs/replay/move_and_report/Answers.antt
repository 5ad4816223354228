use Rattle.std.proofs.Common.{rules}
use Rattle.a429_cert.proofs.ReplayKept.{cert_unreported, cert_no_device, trouble_device, trouble_unreported}
use Rattle.a429_cert.proofs.TriesFacts.{tries_none, tries_one}
use Rattle.a429_cert.proofs.replay.move_and_report.Goals as goal

pub returns-in-Ok-make-clause-unreported : goal.returns-in-Ok-make-clause-unreported
returns-in-Ok-make-clause-unreported g c = search rules

pub returns-in-Err-clause-unreported : goal.returns-in-Err-clause-unreported
returns-in-Err-clause-unreported g c = rw c.of_cert.ensures (cert_unreported c.args.listener.now c.in-Err.fault)

pub returns-in-Err-clause-device : goal.returns-in-Err-clause-device
returns-in-Err-clause-device g c = λ e. absurd (cert_no_device c.in-Err.fault (cc (e, c.of_cert.ensures)))

pub returns-in-Err-make-clause-unreported : goal.returns-in-Err-make-clause-unreported
returns-in-Err-make-clause-unreported g c =
    rw c.of_trouble.ensures (trouble_unreported c.args.listener.now c.make.new.self c.in-Err-make.trouble)

pub returns-in-Err-make-clause-device : goal.returns-in-Err-make-clause-device
returns-in-Err-make-clause-device g c =
    λ e. c.in-Err-make.ensures.device (cc (trouble_device c.in-Err-make.trouble (cc (e, c.of_trouble.ensures))))

pub returns-in-Err-clause-tried : goal.returns-in-Err-clause-tried
returns-in-Err-clause-tried g c = tries_none g.T.Listener.tries c.args.replay.now.profile.now c.args.listener.now

pub returns-in-Err-make-clause-tried : goal.returns-in-Err-make-clause-tried
returns-in-Err-make-clause-tried g c =
    tries_one g.T.Listener.tries c.args.replay.now.profile.now c.args.listener.now c.make.new.self _ c.make.ensures.tried

pub returns-in-Ok-make-clause-tried : goal.returns-in-Ok-make-clause-tried
returns-in-Ok-make-clause-tried g c =
    tries_one g.T.Listener.tries c.args.replay.now.profile.now c.args.listener.now c.make.new.self _ c.make.ensures.tried
