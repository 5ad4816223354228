use Rattle.std.proofs.Common.{◌≡◌}
use Rattle.std.proofs.lemmas.Result.{IfOk-weaker}
use Rattle.a429_cert.specs.Line.{Reads}
use Rattle.a429_cert.specs.Reading.{line_in}
use Rattle.a429_cert.proofs.ReadingFacts.{line-reads}
use Rattle.a429_cert.proofs.reading.read_line.Goals as goal

pub returns-clause-ok : goal.returns-clause-ok
returns-clause-ok c =
    IfOk-weaker c.line_of.result (λ read. read ≡ line_in c.args.line.now) (Reads c.args.line.now)
    (line-reads c.args.line.now) c.line_of.ensures.ok
