-- The parts of a word together: the array `part`, bits that are in two parts, and bits that are in none (profile).
use Rattle.std.specs.Prelude.{ℕ, zero, suc, ◌+◌, List, [], ◌∷◌, ◌++◌, map, length, codes, Bool, ◌&&◌, nat_le, nat_lt, not, Option, Some, None, option_map, if◌then◌else◌}
use Rattle.std.specs.List.{list_any}
use Rattle.toml.specs.Data.{Data, Members, get_member}
use Rattle.a429_profile.specs.Value.{elements_of, is_array_of, is_table}
use Rattle.a429_profile.specs.Labels.{table_of}
use Rattle.a429_import.specs.declared.bits.Bits.{Bits}
use Rattle.a429_import.specs.declared.fault.MapFault.{MapFault}
use Rattle.a429_import.specs.declared.fault.MapFault.TheVariants.{Missing, WrongKind, BitClash, BitMissing}
use Rattle.a429_import.specs.declared.key.Key.TheVariants as at
use Rattle.a429_import.specs.declared.part.Part.{Part}
use Rattle.a429_import.specs.Fault.{first_or}
use Rattle.a429_import.specs.PartTable.{part_in_table, table_fault}

-- ---- bits

-- a bit of a word is one of these
abbrev pub has_bit : Bits → ℕ → Bool
has_bit b n = nat_le b.low n && nat_lt n (b.low + b.count)

-- and one of some parts has it
abbrev pub is_in_part : List Part → ℕ → Bool
is_in_part parts n = list_any (λ p. has_bit p.bits n) parts

-- the first of so many bits, from `low` on, for which this is so
abbrev pub first_bit : (ℕ → Bool) → ℕ → ℕ → Option ℕ
first_bit is low zero = None
first_bit is low (suc n) = if is low then Some low else first_bit is (low + 1) n

-- a part has a bit that an earlier one has
abbrev pub clash_fault : List Part → Part → Option MapFault
clash_fault earlier p = option_map BitClash (first_bit (is_in_part earlier) p.bits.low p.bits.count)

-- one of the bits from 1 on, so many of them, is in no part
abbrev pub missing_fault : List Part → ℕ → Option MapFault
missing_fault parts most = option_map BitMissing (first_bit (λ n. not (is_in_part parts n)) 1 most)

-- ---- the array `part`

-- what is wrong with a table after the parts before it: with its keys, and then a bit that one of those has
abbrev pub next_fault : Bool → ℕ → List Part → Data → Option MapFault
next_fault header i earlier d = first_or (table_fault header i (table_of d)) (clash_fault earlier (part_in_table header (table_of d)))

abbrev pub tables_fault : Bool → ℕ → List Part → List Data → Option MapFault
tables_fault header i earlier [] = None
tables_fault header i earlier (d ∷ ds) =
    first_or (next_fault header i earlier d) (tables_fault header (suc i) (earlier ++ part_in_table header (table_of d) ∷ []) ds)

-- it is needed, and no array of tables, or none at all, has a wrong kind, before any fault inside
abbrev pub are_tables : Data → Bool
are_tables d = is_array_of is_table d && nat_le 1 (length (elements_of d))

abbrev pub array_fault : Bool → Option Data → Option MapFault
array_fault header None = Some (Missing at.Parts)
array_fault header (Some d) = if are_tables d then tables_fault header 0 [] (elements_of d) else Some (WrongKind at.Parts)

abbrev pub parts_in : Bool → Option Data → List Part
parts_in header None = []
parts_in header (Some d) = map (λ e. part_in_table header (table_of e)) (elements_of d)

abbrev pub parts_fault : Bool → Members → Option MapFault
parts_fault header doc = array_fault header (get_member (codes "part") doc)

abbrev pub parts_of : Bool → Members → List Part
parts_of header doc = parts_in header (get_member (codes "part") doc)
