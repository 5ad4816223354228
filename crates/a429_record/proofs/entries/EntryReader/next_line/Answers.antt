use Rattle.a429_record.proofs.WrittenEntry.{written_gives, written_lost}
use Rattle.a429_record.proofs.entries.EntryReader.next_line.Goals as goal

pub returns-in-Some-clause-gives : goal.returns-in-Some-clause-gives
returns-in-Some-clause-gives g c =
    let e = c.in-Some.ensures in
    let old = c.self.inside.reading in
    let new = c.written_entry.new.self in
    rw (← c.self.view_is)
    (written_gives g.R.Read.remaining old.stage new.stage old.rows new.rows c.self.inside.rec c.in-Some.entry e.stage e.stays e.text
    e.format e.gives e.row)

pub returns-in-Some-clause-lines : goal.returns-in-Some-clause-lines
returns-in-Some-clause-lines g c =
    let e = c.in-Some.ensures in
    let old = c.self.inside.reading in
    let new = c.written_entry.new.self in
    rw (← c.self.view_is)
    (written_lost g.R.Read.remaining old.stage old.rows new.rows c.self.inside.rec c.in-Some.entry e.stage e.text e.format e.gives)
