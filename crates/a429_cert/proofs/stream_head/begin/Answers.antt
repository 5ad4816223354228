use Rattle.a429_word.specs.Tally.{unread}
use Rattle.a429_cert.specs.LineReader.{to_come}
use Rattle.a429_cert.specs.Version.{version_line}
use Rattle.a429_cert.proofs.StreamHeadFacts.{read_both}
use Rattle.a429_cert.proofs.stream_head.begin.Goals as goal

pub returns-in-Err-take_first-clause-read : goal.returns-in-Err-take_first-clause-read
returns-in-Err-take_first-clause-read g c =
    read_both (to_come g.R.Read.remaining c.args.lines.now c.args.cert.now)
    (to_come g.R.Read.remaining c.take_version.new.lines c.take_version.new.cert) (unread g.R.Read.remaining c.take_first.new.cert)
    (version_line c.in-Ok.version) c.in-Err-take_first.fault c.in-Ok.ensures.ok
    c.in-Err-take_first.ensures.read
