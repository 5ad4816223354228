use Rattle.a429_cert.proofs.LineReaderFacts.{line_taken}
use Rattle.a429_cert.proofs.LinesFacts.{not_ended}
use Rattle.a429_cert.proofs.line_reader.LineReader.take_line.Goals as goal

pub returns-in-Some-clause-yes : goal.returns-in-Some-clause-yes
returns-in-Some-clause-yes c =
    λ t z. line_taken c.args.self.now.buffer c.args.self.now.next c.args.self.now.filled c.in-Some.len c.memchr.result z c.memchr.ensures
    c.in-Some.is

pub returns-in-None-clause-no : goal.returns-in-None-clause-no
returns-in-None-clause-no c = λ t. not_ended _ c.memchr.result c.memchr.ensures c.in-None.is
