use Rattle.std.proofs.Common.{◌∙◌, ◌+◌, take, arith}
use Rattle.a429_record.specs.Lines.{ahead_of}
use Rattle.a429_record.proofs.LinesFacts.{split_end}
use Rattle.a429_record.proofs.PlainFacts.{no_end, row_alone}
use Rattle.a429_record.proofs.WrittenEntry.{row_short}
use Rattle.a429_record.proofs.rows.RowReader.written_entry.Goals as goal

pub returns-clause-gives : goal.returns-clause-gives
returns-clause-gives c =
    let all = ahead_of c.args.self.now.lines in
    let n = c.in_ok-row.row.len in
    let inside = rw c.ahead.ensures at c.in_ok-row.ensures.inside in
    let row = rw c.ahead.ensures at c.in_ok-row.ensures.row in
    let ended = rw c.ahead.ensures at c.in_ok-row.ensures.ended in
    rw c.pass.ensures (
      take n all,
      no_end (take n all) c.in_ok-row.row.entry row,
      row_alone (take n all) c.in_ok-row.row.entry row,
      split_end all n inside ended,
    )

pub returns-clause-line : goal.returns-clause-line
returns-clause-line c =
    let n = c.in_ok-row.row.len in
    let inside = rw c.ahead.ensures at c.in_ok-row.ensures.inside in
    let line = rw c.ahead.ensures at c.in_ok-row.ensures.line in
    c.copy.ensures ∙ c.in_ok-front.ensures.begins (n + 1)
    (row_short (ahead_of c.args.self.now.lines) n c.in_ok-row.row.entry (omega arith) inside line) (omega (arith, inside))
    ∙ line
