use Rattle.csv.specs.Records.{fields_of}
use Rattle.a429_record.proofs.LineRecords.{no_row, one_row, several_rows}
use Rattle.a429_record.proofs.line.row_by_scan.Goals as goal

pub returns-in_default : goal.returns-in_default
returns-in_default c = no_row c.args.text.now (fields_of c.next_record.new.row) (rw c.in_default.is at c.in_ok-end.ensures)

pub returns-in-Some-second : goal.returns-in-Some-second
returns-in-Some-second c =
    several_rows c.args.text.now (fields_of c.next_record.new.row)
    (fields_of c.next_record-2.new.row) c.in-Some.end c.in-Some-second.field-0
    (rw c.in-Some.is at c.in_ok-end.ensures) (rw c.in-Some-second.is at c.in_ok-second.ensures)

pub returns-in-None : goal.returns-in-None
returns-in-None c =
    one_row c.args.text.now (fields_of c.next_record.new.row) (fields_of c.next_record-2.new.row) c.in-Some.end
    (rw c.in-Some.is at c.in_ok-end.ensures) (rw c.in-None.is at c.in_ok-second.ensures)
