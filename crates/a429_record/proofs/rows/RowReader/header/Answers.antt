use Rattle.std.proofs.Common.{◌≡◌, ◌∷◌, [], Some, None, true, false, Err, refl, sym, ap, ◌∙◌, rules, arith}
use Rattle.csv.specs.Records.{fields_of}
use Rattle.a429_record.specs.declared.fault.ReadFault.TheVariants as fault
use Rattle.a429_record.specs.Row.{Row, is_header, line_rows}
use Rattle.a429_record.specs.Lines.{pending_of}
use Rattle.a429_record.specs.Rows.{rows_left}
use Rattle.a429_record.specs.Handed.{AreHeader}
use Rattle.a429_record.proofs.RowsFacts.{AreRowsAfter, taken, same_rows, header_row, other_row}
use Rattle.a429_record.proofs.Handed.{blank_lost, line_lost, failed_lost}
use Rattle.a429_record.proofs.rows.RowReader.header.Given.{Over}
use Rattle.a429_record.proofs.rows.RowReader.header.Goals as goal
use Rattle.a429_record.proofs.rows.RowReader.header.Goals.{After-row_in_line}

-- the rows after the line that was read
line_taken : (g : Over) (c : After-row_in_line g)
    → AreRowsAfter (rows_left g.R.Read.remaining c.args.self.now c.args.rec.now) c.next_line.new.line.items
    (pending_of g.R.Read.remaining c.next_line.new.self c.next_line.new.rec)
line_taken g c = taken _ _ _ _ c.lines.invariant.rows (c.in-Ok-true.ensures.takes c.in-Ok-true.field-0-test)

pub returns-in-Err-clause-before : goal.returns-in-Err-clause-before
returns-in-Err-clause-before g c failed =
    let is : c.in-Err.fault ≡ fault.Device = cc failed in
    failed_lost _ _ _ c.lines.invariant.blank (c.in-Err.ensures.before (ap Err is))

pub lines-preserved : goal.lines-preserved
lines-preserved g c =
    let h = line_taken g (goal.at.lines-preserved g c).After-row_in_line in
    let none : [] ≡ line_rows c.next_line.new.line.items =
    rw (c.in-Ok-Blank.field-0-is, c.as_slice.ensures.value) at c.in-Ok-Blank.ensures.ok in
    record {
      rows =
          same_rows (rows_left g.R.Read.remaining c.args.self.now c.args.rec.now)
          (pending_of g.R.Read.remaining c.next_line.new.self c.next_line.new.rec) c.next_line.new.line.items h none;
      blank =
          blank_lost (pending_of g.R.Read.remaining c.args.self.now.lines c.args.rec.now)
          (pending_of g.R.Read.remaining c.lines.self.lines c.lines.rec)
          (pending_of g.R.Read.remaining c.next_line.new.self c.next_line.new.rec) c.next_line.new.line.items c.lines.invariant.blank
          (c.in-Ok-true.ensures.takes c.in-Ok-true.field-0-test) (sym none);
      format = c.lines.invariant.format;
      most = c.lines.invariant.most;
      count = c.lines.invariant.count;
      last = c.lines.invariant.last;
      room = omega (arith, c.lines.invariant.room, c.in-Ok-true.ensures.room c.in-Ok-true.field-0-test);
      works = search rules;
    }

pub returns-then-is_header_row-clause-takes : goal.returns-then-is_header_row-clause-takes
returns-then-is_header_row-clause-takes g c =
    let h = line_taken g (goal.at.returns-then-is_header_row-clause-takes g c).After-row_in_line in
    let r : Row = Some (fields_of c.in-Ok-One.row) in
    let one : r ∷ [] ≡ line_rows c.next_line.new.line.items =
    rw (c.in-Ok-One.field-0-is, c.as_slice.ensures.value) at c.in-Ok-One.ensures.ok in
    let first : is_header r ≡ true = sym c.is_header_row.ensures ∙ c.if-is_header_row.true in
    header_row c.args.self.now.most (rows_left g.R.Read.remaining c.args.self.now c.args.rec.now)
    (pending_of g.R.Read.remaining c.next_line.new.self c.next_line.new.rec) c.next_line.new.line.items r _ h one first

pub returns-then-is_header_row-clause-lines : goal.returns-then-is_header_row-clause-lines
returns-then-is_header_row-clause-lines g c =
    let r : Row = Some (fields_of c.in-Ok-One.row) in
    let one : r ∷ [] ≡ line_rows c.next_line.new.line.items =
    rw (c.in-Ok-One.field-0-is, c.as_slice.ensures.value) at c.in-Ok-One.ensures.ok in
    let first : is_header r ≡ true = sym c.is_header_row.ensures ∙ c.if-is_header_row.true in
    line_lost AreHeader (pending_of g.R.Read.remaining c.args.self.now.lines c.args.rec.now)
    (pending_of g.R.Read.remaining c.lines.self.lines c.lines.rec) (pending_of g.R.Read.remaining c.next_line.new.self c.next_line.new.rec)
    c.next_line.new.line.items c.lines.invariant.blank (c.in-Ok-true.ensures.takes c.in-Ok-true.field-0-test) (r, sym one, first)

pub returns-in-Ok-One-clause-takes : goal.returns-in-Ok-One-clause-takes
returns-in-Ok-One-clause-takes g c =
    let h = line_taken g (goal.at.returns-in-Ok-One-clause-takes g c).After-row_in_line in
    let r : Row = Some (fields_of c.in-Ok-One.row) in
    let one : r ∷ [] ≡ line_rows c.next_line.new.line.items =
    rw (c.in-Ok-One.field-0-is, c.as_slice.ensures.value) at c.in-Ok-One.ensures.ok in
    let other : is_header r ≡ false = sym c.is_header_row.ensures ∙ c.if-is_header_row.false in
    other_row c.args.self.now.most (rows_left g.R.Read.remaining c.args.self.now c.args.rec.now)
    (pending_of g.R.Read.remaining c.next_line.new.self c.next_line.new.rec) c.next_line.new.line.items r h one other

pub returns-in-Ok-Several-clause-takes : goal.returns-in-Ok-Several-clause-takes
returns-in-Ok-Several-clause-takes g c =
    let h = line_taken g (goal.at.returns-in-Ok-Several-clause-takes g c).After-row_in_line in
    let r : Row = None in
    let one : r ∷ [] ≡ line_rows c.next_line.new.line.items =
    rw (c.in-Ok-Several.field-0-is, c.as_slice.ensures.value) at c.in-Ok-Several.ensures.ok in
    other_row c.args.self.now.most (rows_left g.R.Read.remaining c.args.self.now c.args.rec.now)
    (pending_of g.R.Read.remaining c.next_line.new.self c.next_line.new.rec) c.next_line.new.line.items r h one refl

pub returns-in-Ok-false-clause-lines : goal.returns-in-Ok-false-clause-lines
returns-in-Ok-false-clause-lines g c = tt

pub returns-in-Ok-false-clause-room : goal.returns-in-Ok-false-clause-room
returns-in-Ok-false-clause-room g c = tt

pub returns-in-Ok-false-clause-takes : goal.returns-in-Ok-false-clause-takes
returns-in-Ok-false-clause-takes g c = search rules

pub returns-in-Err-row_in_line-clause-before : goal.returns-in-Err-row_in_line-clause-before
returns-in-Err-row_in_line-clause-before g c = search rules
