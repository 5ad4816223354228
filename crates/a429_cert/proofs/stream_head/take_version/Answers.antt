use Rattle.std.proofs.Common.{rules}
use Rattle.a429_word.specs.Tally.{unread}
use Rattle.a429_cert.specs.LineReader.{bytes_ahead, to_come}
use Rattle.a429_cert.proofs.StreamHeadFacts.{read_none}
use Rattle.a429_cert.proofs.stream_head.take_version.Goals as goal

pub returns-clause-ok : goal.returns-clause-ok
returns-clause-ok g c = search rules

pub returns-clause-room : goal.returns-clause-room
returns-clause-room g c = search rules

pub returns-in_default-clause-read : goal.returns-in_default-clause-read
returns-in_default-clause-read g c =
    read_none 1 (bytes_ahead c.next_line.new.self) (to_come g.R.Read.remaining c.args.lines.now c.args.cert.now)
    (unread g.R.Read.remaining c.next_line.new.cert) c.next_line.ensures.few (search rules)
