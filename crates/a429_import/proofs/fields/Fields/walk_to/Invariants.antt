use Rattle.std.proofs.Common.{◌≡◌, ◌-◌, slice_get}
use Rattle.a429_import.specs.Fields.{fields_left}
use Rattle.a429_import.proofs.fields.Fields.walk_to.Given as goal

abbrev pub invariant-fields : goal.invariant-fields
invariant-fields l = slice_get (fields_left l.self) l.place ≡ slice_get (fields_left l.fields) (l.place - l._before)
