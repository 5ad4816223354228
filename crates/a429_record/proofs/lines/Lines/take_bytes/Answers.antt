use Rattle.std.proofs.Common.{arith}
use Rattle.std.proofs.lemmas.Bool.Decides.{nat_tests}
use Rattle.a429_record.proofs.LinesFacts.{ahead_taken}
use Rattle.a429_record.proofs.lines.Lines.take_bytes.Goals as goal

pub returns-clause-takes : goal.returns-clause-takes
returns-clause-takes c =
    let s = c.args.self.now in
    ahead_taken s.buffer s.at s.filled c.min-n.result c.copy_from_slice.new.self _ s.ordered (omega arith)
    (grind (arith, nat_tests, c.min-n.ensures)) (search)
