use Rattle.std.proofs.Common.{map, ap, refl}
use Rattle.csv.specs.Records.{fields_of}
use Rattle.a429_import.specs.Fields.{trimmed}
use Rattle.a429_import.proofs.FieldsFacts.{field_here, no_field}
use Rattle.a429_import.proofs.fields.first_of_record.Goals as goal

pub returns-in_err-field-clause-none : goal.returns-in_err-field-clause-none
returns-in_err-field-clause-none c =
    rw c.from_residual.ensures (ap (map trimmed) (no_field (fields_of c.args.row.now) c.args.place c.in_err-field.ensures.value))

pub returns-clause-some : goal.returns-clause-some
returns-clause-some c =
    rw (field_here (fields_of c.args.row.now) c.args.place c.in_ok-field.field.now c.in_ok-field.ensures.value, c.trimmed.ensures) refl
