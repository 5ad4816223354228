-- The array `part`, table by table.
use Rattle.std.proofs.Common.{◌≡◌, ℕ, suc, ◌+◌, ◌<◌, List, [], ◌∷◌, ◌++◌, length, get_or, drop, map, Bool, true, false, ◌&&◌, nat_le, Some, None, is_some, if◌then◌else◌, refl, ap, ◌∙◌, arith}
use Rattle.std.specs.List.{list_all}
use Rattle.std.proofs.lemmas.List.{length-map}
use Rattle.std.proofs.lemmas.List.Folds.{list_all-map}
use Rattle.toml.specs.Data.{Data, as_array}
use Rattle.toml.specs.View.{view}
use Rattle.toml.specs.declared.value.Value.{Value}
use Rattle.a429_profile.specs.Value.{elements_of, is_table}
use Rattle.a429_profile.specs.Labels.{table_of}
use Rattle.a429_profile.proofs.Turns.{next}
use Rattle.a429_import.specs.declared.key.Key.TheVariants.{Parts}
use Rattle.a429_import.specs.declared.fault.MapFault.TheVariants.{WrongKind}
use Rattle.a429_import.specs.declared.part.Part.{Part}
use Rattle.a429_import.specs.Fault.{first_or}
use Rattle.a429_import.specs.PartTable.{part_in_table}
use Rattle.a429_import.specs.Parts.{array_fault, first_bit, next_fault, parts_in, tables_fault}

-- the array, in the words of its elements
pub array_fault-tables : (header : Bool) (d : Data) (vs : List Value) (b : Bool) → true ≡ is_some (as_array d) → elements_of d ≡ map view vs
    → b ≡ (list_all (λ v. is_table (view v)) vs && nat_le 1 (length vs))
    → array_fault header (Some d) ≡ (if b then tables_fault header 0 [] (map view vs) else Some (WrongKind Parts))
array_fault-tables header d vs b has e tables = rw (← has, e, list_all-map is_table view vs, length-map vs view, ← tables) refl

map-tables : (header : Bool) (vs : List Value)
    → map (λ d. part_in_table header (table_of d)) (map view vs) ≡ map (λ v. part_in_table header (table_of (view v))) vs
map-tables header [] = refl
map-tables header (v ∷ vs) = ap (λ ps. part_in_table header (table_of (view v)) ∷ ps) (map-tables header vs)

pub parts_in-tables : (header : Bool) (d : Data) (vs : List Value)
    → elements_of d ≡ map view vs → parts_in header (Some d) ≡ map (λ v. part_in_table header (table_of (view v))) vs
parts_in-tables header d vs e = rw e (map-tables header vs)

-- ---- a turn further

-- a table without a fault leaves the faults of those after it
pub tables_fault-next : (header : Bool) (earlier : List Part) (vs : List Value) (i : ℕ) (v : Value) → i < length vs → v ≡ get_or vs i v
    → next_fault header i earlier (view v) ≡ None
    → tables_fault header i earlier (map view (drop i vs))
    ≡ tables_fault header (i + 1) (earlier ++ part_in_table header (table_of (view v)) ∷ []) (map view (drop (i + 1) vs))
tables_fault-next header earlier vs i v h e ok =
    let more : suc i ≡ i + 1 = omega arith in
    let after = earlier ++ part_in_table header (table_of (view v)) ∷ [] in
    ap (λ ws. tables_fault header i earlier (map view ws)) (next vs i v h e)
    ∙ ap (λ f. first_or f (tables_fault header (suc i) after (map view (drop (i + 1) vs)))) ok
    ∙ ap (λ n. tables_fault header n after (map view (drop (i + 1) vs))) more

-- ---- the first bit

-- a bit for which it is not so is not the first
pub first_bit-next : (is : ℕ → Bool) (low n m : ℕ) → n ≡ suc m → is low ≡ false → first_bit is low n ≡ first_bit is (low + 1) m
first_bit-next is low n m e none = rw (e, none) refl
