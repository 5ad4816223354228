-- The array `label`, in the words of its elements.
use Rattle.std.proofs.Common.{◌≡◌, List, [], ◌∷◌, map, Bool, true, if◌then◌else◌, Some, is_some, refl, ap}
use Rattle.std.specs.List.{list_all}
use Rattle.std.proofs.lemmas.List.Folds.{list_all-map}
use Rattle.toml.specs.Data.{Data, as_array}
use Rattle.toml.specs.View.{view}
use Rattle.toml.specs.declared.value.Value.{Value}
use Rattle.a429_profile.specs.declared.key.Key.TheVariants.{Labels}
use Rattle.a429_profile.specs.declared.fault.ProfileFault.TheVariants.{WrongKind}
use Rattle.a429_profile.specs.Value.{elements_of, is_table}
use Rattle.a429_profile.specs.Labels.{array_fault, entries_fault, entries_in, entry_in_table, table_of}

pub array_fault-tables : (d : Data) (vs : List Value) (b : Bool)
    → true ≡ is_some (as_array d) → elements_of d ≡ map view vs → b ≡ list_all (λ v. is_table (view v)) vs
    → array_fault (Some d) ≡ (if b then entries_fault 0 (map view vs) else Some (WrongKind Labels))
array_fault-tables d vs b has e tables = rw (← has, e, list_all-map is_table view vs, ← tables) refl

map-tables : (vs : List Value) → map (λ d. entry_in_table (table_of d)) (map view vs) ≡ map (λ v. entry_in_table (table_of (view v))) vs
map-tables [] = refl
map-tables (v ∷ vs) = ap (λ es. entry_in_table (table_of (view v)) ∷ es) (map-tables vs)

pub entries_in-tables : (d : Data) (vs : List Value)
    → elements_of d ≡ map view vs → entries_in (Some d) ≡ map (λ v. entry_in_table (table_of (view v))) vs
entries_in-tables d vs e = rw e (map-tables vs)
