-- what is still to be read stands for the rest
use Rattle.std.proofs.Common.{◌≡◌, ◌++◌, [], map, drop, true, All}
use Rattle.std.specs.List.{list_all}
use Rattle.toml.specs.View.{view}
use Rattle.a429_profile.specs.Value.{is_table}
use Rattle.a429_profile.specs.Labels.{table_of}
use Rattle.a429_import.specs.Part.{IsSoundPart}
use Rattle.a429_import.specs.PartTable.{part_in_table}
use Rattle.a429_import.specs.Parts.{tables_fault}
use Rattle.a429_import.proofs.parts.read_tables.Given as goal

abbrev pub invariant-loop-position : goal.invariant-loop-position
invariant-loop-position l = record {
  faults : tables_fault l.header 0 [] (map view l.values)
      ≡ tables_fault l.header l.position l.parts.items (map view (drop l.position l.values));
  parts : l.parts.items ++ map (λ e. part_in_table l.header (table_of (view e))) (drop l.position l.values)
      ≡ map (λ e. part_in_table l.header (table_of (view e))) l.values;
  tables : list_all (λ v. is_table (view v)) (drop l.position l.values) ≡ true;
  sound : All IsSoundPart l.parts.items;
}
