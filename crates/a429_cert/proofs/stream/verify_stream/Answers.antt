use Rattle.a429_cert.specs.Change.{change}
use Rattle.a429_cert.specs.StreamExplained.{comparison}
use Rattle.a429_cert.proofs.StreamReplay.{run_of_answer}
use Rattle.a429_cert.proofs.stream.verify_stream.Goals as goal

pub returns-clause-some_run : goal.returns-clause-some_run
returns-clause-some_run g c =
    run_of_answer (comparison c.args.profile.now g.C.Read.remaining c.args.cert.now c.args.rec.now)
    (change (g.S.Shelf.files c.args.shelf.now) (g.S.Shelf.files c.replay_stream.new.shelf)) c.replay_stream.result
    c.replay_stream.ensures.ok
