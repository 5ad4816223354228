use Rattle.a429_cert.specs.LikelyLine.{text_in}
use Rattle.a429_cert.proofs.LikelyFacts.{text_ahead, text_held}
use Rattle.a429_cert.proofs.line_reader.LineReader.take_text.Goals as goal

pub returns-in-Some-clause-yes : goal.returns-in-Some-clause-yes
returns-in-Some-clause-yes c = λ _.
    let s = c.args.self.now in
    text_ahead s.buffer (text_in c.args.likely) s.next s.filled c.in-Some.len c.in-Some.ensures.inside c.in-Some.ensures.text

pub returns-in-Some-clause-line : goal.returns-in-Some-clause-line
returns-in-Some-clause-line c = λ _.
    let s = c.args.self.now in
    text_held s.buffer
    (text_in c.args.likely) s.next s.filled c.in-Some.len _ c.in-Some.ensures.inside c.in-Some.ensures.len c.in-Some.ensures.text
