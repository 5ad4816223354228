use Rattle.a429_record.specs.Lines.{pending_of}
use Rattle.a429_word.specs.Tally.{unread}
use Rattle.a429_record.proofs.Handed.{failed_first, given_first}
use Rattle.a429_record.proofs.rows.RowReader.first_row.Goals as goal

pub returns-clause-lines : goal.returns-clause-lines
returns-clause-lines g c =
    given_first c.next_row.result (pending_of g.R.Read.remaining c.args.self.now.lines c.args.rec.now)
    (pending_of g.R.Read.remaining c.header.new.self.lines c.header.new.rec)
    (pending_of g.R.Read.remaining c.next_row.new.self.lines c.next_row.new.rec)
    c.in-Ok.ensures.lines c.next_row.ensures.lines

pub returns-clause-before : goal.returns-clause-before
returns-clause-before g c failed =
    failed_first c.args.self.now.most (pending_of g.R.Read.remaining c.args.self.now.lines c.args.rec.now)
    (pending_of g.R.Read.remaining c.header.new.self.lines c.header.new.rec)
    (unread g.R.Read.remaining c.next_row.new.rec) c.in-Ok.ensures.lines (c.next_row.ensures.before failed)
