use Rattle.std.proofs.Common.{◌≡◌, ◌+◌, ◌<◌, ◌^◌, length}
use Rattle.a429_import.specs.Columns.{name_at}
use Rattle.a429_import.specs.Fields.{fields_left}
use Rattle.a429_import.proofs.fields.Fields.position.Given as goal

abbrev pub invariant-fields : goal.invariant-fields
invariant-fields l = record {
  same : name_at 0 l.name (fields_left l.self) ≡ name_at l.place l.name (fields_left l.fields);
  few : l.place + length (fields_left l.fields) < 2 ^ 64;
}

abbrev pub decreases-fields : goal.decreases-fields
decreases-fields l = length (fields_left l.fields)
