use Rattle.std.proofs.Common.{◌≡◌, drop}
use Rattle.a429_import.specs.Columns.{part_places}
use Rattle.a429_import.specs.Fields.{fields_left}
use Rattle.a429_import.proofs.ColumnsFacts.{with_places}
use Rattle.a429_import.proofs.columns.part_places.Given as goal

abbrev pub invariant-loop-part : goal.invariant-loop-part
invariant-loop-part l =
    with_places l.places.items (part_places (fields_left l.names) (drop l.part-index l.parts)) ≡ part_places (fields_left l.names) l.parts
