use Rattle.a429_cert.proofs.LikelyFacts.{text_first}
use Rattle.a429_cert.proofs.line_reader.LineReader.take_both.Goals as goal

pub returns-then-starts_with-clause-yes : goal.returns-then-starts_with-clause-yes
returns-then-starts_with-clause-yes c h =
    let s = c.args.self.now in
    text_first s.buffer c.args.text.now s.next s.filled c.starts_with.result c.starts_with.ensures.value c.if-starts_with.true
