-- what is still to be read stands for the rest
use Rattle.std.proofs.Common.{◌≡◌, ◌++◌, map, drop, true}
use Rattle.std.specs.List.{list_all}
use Rattle.toml.specs.View.{view}
use Rattle.a429_profile.specs.Value.{is_table}
use Rattle.a429_profile.specs.Labels.{entries_fault, entry_in_table, table_of}
use Rattle.a429_profile.proofs.labels.read_entries.Given as goal

abbrev pub invariant-loop-position : goal.invariant-loop-position
invariant-loop-position l = record {
  faults : entries_fault 0 (map view l.values) ≡ entries_fault l.position (map view (drop l.position l.values));
  entries : l.entries.items ++ map (λ e. entry_in_table (table_of (view e))) (drop l.position l.values)
      ≡ map (λ e. entry_in_table (table_of (view e))) l.values;
  tables : list_all (λ v. is_table (view v)) (drop l.position l.values) ≡ true;
}
