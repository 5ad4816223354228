-- What the bytes of a map say, or what is wrong with them (profile).
use Rattle.std.specs.Prelude.{◌≡◌, ◌⊎◌, ℕ, List, Ok, Err}
use Rattle.std.specs.Str.{IsUtf8}
use Rattle.toml.specs.Parse.{parse_document}
use Rattle.a429_import.specs.declared.fault.MapFault.{MapFault}
use Rattle.a429_import.specs.declared.fault.MapFault.TheVariants.{NotToml}
use Rattle.a429_import.specs.declared.map.Map.{Map}
use Rattle.a429_import.specs.Map.{Answers}
use Rattle.a429_commands.specs.declared.fault.RunFault.{RunFault}
use Rattle.a429_commands.specs.declared.fault.RunFault.TheVariants as run

-- the bytes are the text of this map
abbrev pub IsMapOf : List ℕ → Map → Type 0
IsMapOf bytes m = IsUtf8 bytes × Answers (parse_document bytes) (Ok m)

-- they are, and something holds of the map
abbrev pub WithMap : List ℕ → (Map → Type 0) → Type 0
WithMap bytes Such = (m : Map) × IsMapOf bytes m × Such m

-- the bytes are no text, or a text with this fault
abbrev pub HasMapFault : List ℕ → MapFault → Type 0
HasMapFault bytes f = ((¬ IsUtf8 bytes) × (f ≡ NotToml)) ⊎ (IsUtf8 bytes × Answers (parse_document bytes) (Err f))

-- why a map could not be read: its own fault, or, of a text, out of memory
abbrev pub IsMapFault : List ℕ → RunFault → Type 0
IsMapFault bytes (run.Map f) = HasMapFault bytes f
IsMapFault bytes run.Memory = IsUtf8 bytes
IsMapFault bytes e = ⊥
