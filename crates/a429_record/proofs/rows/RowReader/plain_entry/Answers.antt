use Rattle.std.proofs.Common.{take}
use Rattle.a429_record.specs.Lines.{ahead_of}
use Rattle.a429_record.proofs.LinesFacts.{split_end}
use Rattle.a429_record.proofs.rows.RowReader.plain_entry.Goals as goal

pub returns-clause-some : goal.returns-clause-some
returns-clause-some c =
    let all = ahead_of c.args.self.now.lines in
    let line = c.in_ok-line.ensures in
    let n = c.in_ok-line.line.len in
    let seen = rw c.ahead.ensures at c.in_ok-line.ensures.inside in
    let one = rw c.ahead.ensures at c.in_ok-line.ensures.one in
    let entry = rw c.ahead.ensures at c.in_ok-line.ensures.entry in
    let ended = rw c.ahead.ensures at c.in_ok-line.ensures.ended in
    rw c.pass.ensures (take n all, one, entry, split_end all n seen ended)
