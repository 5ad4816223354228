use Rattle.a429_record.proofs.LinesFacts.{ahead_slice}
use Rattle.a429_record.proofs.lines.Lines.ahead.Goals as goal

pub returns : goal.returns
returns c =
    let s = c.args.self.now in
    ahead_slice s.buffer s.at s.filled s.ordered
