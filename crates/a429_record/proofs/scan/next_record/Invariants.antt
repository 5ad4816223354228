use Rattle.std.proofs.Common.{◌≡◌, [], drop}
use Rattle.csv.specs.Machine as Machine
use Rattle.csv.specs.Reading.{default_config}
use Rattle.csv.specs.Records.{fields_of, partial_of}
use Rattle.a429_record.specs.Scan.{state_of}
use Rattle.a429_record.proofs.scan.next_record.Given as goal

abbrev pub invariant-bytes : goal.invariant-bytes
invariant-bytes l = record {
  reads : Machine.next_record default_config (state_of l.fn.place) [] [] l.bytes
      ≡ Machine.next_record default_config (state_of l.place) (fields_of l.row) l.field.items (drop l.at l.bytes);
  partial : partial_of l.row ≡ [];
}
