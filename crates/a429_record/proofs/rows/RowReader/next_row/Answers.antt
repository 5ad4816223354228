use Rattle.std.proofs.Common.{◌≡◌, ◌∷◌, [], map, Some, None, Err, sym, ap, rules, arith}
use Rattle.a429_record.specs.declared.fault.ReadFault.TheVariants as fault
use Rattle.a429_record.specs.Row.{line_rows, entry_in}
use Rattle.a429_record.specs.Handed.{AreEntryOf}
use Rattle.a429_record.specs.Rows.{rows_left}
use Rattle.a429_record.specs.Lines.{pending_of}
use Rattle.a429_word.specs.Tally.{inner_of}
use Rattle.a429_record.proofs.LinesFacts.{gives, takes_ended}
use Rattle.a429_record.proofs.RowsFacts.{AreRowsAfter, own_rows, taken, same_rows, one_row, gives_row}
use Rattle.a429_record.proofs.Handed.{blank_lost, line_lost, failed_lost, no_lines, taken_entry, taken_none, no_entry}
use Rattle.a429_record.proofs.rows.RowReader.next_row.Given.{Over}
use Rattle.a429_record.proofs.rows.RowReader.next_row.Goals as goal
use Rattle.a429_record.proofs.rows.RowReader.next_row.Goals.{After-entry_in_line}

-- the rows after the line that was read
line_taken : (g : Over) (c : After-entry_in_line g)
    → AreRowsAfter (rows_left g.R.Read.remaining c.args.self.now c.args.rec.now) c.next_line.new.line.items
    (pending_of g.R.Read.remaining c.next_line.new.self c.next_line.new.rec)
line_taken g c = taken _ _ _ _ c.lines.invariant.rows (c.in-Ok-true.ensures.takes c.in-Ok-true.field-0-test)

pub returns-in-Some-clause-gives : goal.returns-in-Some-clause-gives
returns-in-Some-clause-gives g c =
    let gave = c.in-Some.ensures.some in
    let before = pending_of g.R.Read.remaining c.args.self.now.lines c.args.rec.now in
    let after = pending_of g.R.Read.remaining c.plain_entry.new.self.lines c.args.rec.now in
    let rows = rows_left g.R.Read.remaining c.args.self.now c.args.rec.now in
    let took = takes_ended before after gave.0 gave.1 (gives (g.R.Read.remaining (inner_of c.args.rec.now)) _ _ _ gave.3) in
    let one = one_row (line_rows gave.0) (Some c.in-Some.entry) (sym gave.2) in
    let given =
    gives_row c.plain_entry.new.self.most c.plain_entry.new.self.count c.plain_entry.new.self.last c.take_row.new.self.most
    c.take_row.new.self.count c.take_row.new.self.last
    rows after gave.0 one.0 (Some c.in-Some.entry) c.take_row.result one.1 one.2
    (taken rows before after gave.0 (own_rows before) took) c.take_row.ensures.gives in
    rw c.take_row.ensures.lines (rw (c.plain_entry.ensures.most, c.plain_entry.ensures.count, c.plain_entry.ensures.last) at given)

pub returns-in-Ok-One-clause-gives : goal.returns-in-Ok-One-clause-gives
returns-in-Ok-One-clause-gives g c =
    let h = line_taken g (goal.at.returns-in-Ok-One-clause-gives g c).After-entry_in_line in
    let one =
    one_row (line_rows c.next_line.new.line.items) (Some c.in-Ok-One.entry)
    (rw (c.in-Ok-One.field-0-is, c.as_slice.ensures.value) at c.in-Ok-One.ensures.ok) in
    let given =
    gives_row c.lines.self.most c.lines.self.count c.lines.self.last c.take_row-in-Ok-One.new.self.most c.take_row-in-Ok-One.new.self.count
    c.take_row-in-Ok-One.new.self.last
    (rows_left g.R.Read.remaining c.args.self.now c.args.rec.now) (pending_of g.R.Read.remaining c.next_line.new.self c.next_line.new.rec)
    c.next_line.new.line.items one.0
    (Some c.in-Ok-One.entry) c.take_row-in-Ok-One.result one.1 one.2 h c.take_row-in-Ok-One.ensures.gives in
    rw c.take_row-in-Ok-One.ensures.lines (rw (c.lines.invariant.most, c.lines.invariant.count, c.lines.invariant.last) at given)

pub returns-in-Ok-Bad-clause-gives : goal.returns-in-Ok-Bad-clause-gives
returns-in-Ok-Bad-clause-gives g c =
    let h = line_taken g (goal.at.returns-in-Ok-Bad-clause-gives g c).After-entry_in_line in
    let one =
    one_row (line_rows c.next_line.new.line.items) None (rw (c.in-Ok-Bad.field-0-is, c.as_slice.ensures.value) at c.in-Ok-Bad.ensures.ok) in
    let given =
    gives_row c.lines.self.most c.lines.self.count c.lines.self.last c.take_row-in-Ok-Bad.new.self.most c.take_row-in-Ok-Bad.new.self.count
    c.take_row-in-Ok-Bad.new.self.last
    (rows_left g.R.Read.remaining c.args.self.now c.args.rec.now) (pending_of g.R.Read.remaining c.next_line.new.self c.next_line.new.rec)
    c.next_line.new.line.items one.0 None c.take_row-in-Ok-Bad.result one.1 one.2 h c.take_row-in-Ok-Bad.ensures.gives in
    rw c.take_row-in-Ok-Bad.ensures.lines (rw (c.lines.invariant.most, c.lines.invariant.count, c.lines.invariant.last) at given)

pub returns-in-Err-clause-before : goal.returns-in-Err-clause-before
returns-in-Err-clause-before g c failed =
    let is : c.in-Err.fault ≡ fault.Device = cc failed in
    failed_lost _ _ _ c.lines.invariant.blank (c.in-Err.ensures.before (ap Err is))

pub lines-preserved : goal.lines-preserved
lines-preserved g c =
    let h = line_taken g (goal.at.lines-preserved g c).After-entry_in_line in
    let none : [] ≡ map entry_in (line_rows c.next_line.new.line.items) =
    rw (c.in-Ok-Blank.field-0-is, c.as_slice.ensures.value) at c.in-Ok-Blank.ensures.ok in
    let empty = no_entry (line_rows c.next_line.new.line.items) none in
    record {
      rows =
          same_rows (rows_left g.R.Read.remaining c.args.self.now c.args.rec.now)
          (pending_of g.R.Read.remaining c.next_line.new.self c.next_line.new.rec) c.next_line.new.line.items h empty;
      blank =
          blank_lost (pending_of g.R.Read.remaining c.args.self.now.lines c.args.rec.now)
          (pending_of g.R.Read.remaining c.lines.self.lines c.lines.rec)
          (pending_of g.R.Read.remaining c.next_line.new.self c.next_line.new.rec) c.next_line.new.line.items c.lines.invariant.blank
          (c.in-Ok-true.ensures.takes c.in-Ok-true.field-0-test) (sym empty);
      format = c.lines.invariant.format;
      most = c.lines.invariant.most;
      count = c.lines.invariant.count;
      last = c.lines.invariant.last;
      room = omega (arith, c.lines.invariant.room, c.in-Ok-true.ensures.room c.in-Ok-true.field-0-test);
      works = search rules;
    }

pub returns-in-Some-clause-lines : goal.returns-in-Some-clause-lines
returns-in-Some-clause-lines g c =
    let gave = c.in-Some.ensures.some in
    let before = pending_of g.R.Read.remaining c.args.self.now.lines c.args.rec.now in
    let after = pending_of g.R.Read.remaining c.plain_entry.new.self.lines c.args.rec.now in
    let took = takes_ended before after gave.0 gave.1 (gives (g.R.Read.remaining (inner_of c.args.rec.now)) _ _ _ gave.3) in
    let lost = line_lost (AreEntryOf c.in-Some.entry) before before after gave.0 (no_lines before) took gave.2 in
    rw c.take_row.ensures.lines (taken_entry c.take_row.result c.in-Some.entry before after c.take_row.ensures.entry lost)

pub returns-in-Ok-One-clause-lines : goal.returns-in-Ok-One-clause-lines
returns-in-Ok-One-clause-lines g c =
    let before = pending_of g.R.Read.remaining c.args.self.now.lines c.args.rec.now in
    let between = pending_of g.R.Read.remaining c.lines.self.lines c.lines.rec in
    let after = pending_of g.R.Read.remaining c.next_line.new.self c.next_line.new.rec in
    let line = c.next_line.new.line.items in
    let one : Some c.in-Ok-One.entry ∷ [] ≡ map entry_in (line_rows line) =
    rw (c.in-Ok-One.field-0-is, c.as_slice.ensures.value) at c.in-Ok-One.ensures.ok in
    let lost =
    line_lost (AreEntryOf c.in-Ok-One.entry) before between after line c.lines.invariant.blank
    (c.in-Ok-true.ensures.takes c.in-Ok-true.field-0-test) (sym one) in
    rw c.take_row-in-Ok-One.ensures.lines
    (taken_entry c.take_row-in-Ok-One.result c.in-Ok-One.entry before after c.take_row-in-Ok-One.ensures.entry lost)

pub returns-in-Ok-Bad-clause-lines : goal.returns-in-Ok-Bad-clause-lines
returns-in-Ok-Bad-clause-lines g c = taken_none c.take_row-in-Ok-Bad.result _ c.take_row-in-Ok-Bad.ensures.entry

pub returns-in-Err-entry_in_line-clause-before : goal.returns-in-Err-entry_in_line-clause-before
returns-in-Err-entry_in_line-clause-before g c = search rules
