-- What the bytes of a profile say, or what is wrong with them (profile).
use Rattle.std.specs.Prelude.{◌≡◌, ◌⊎◌, ℕ, List, Ok, Err}
use Rattle.std.specs.Str.{IsUtf8}
use Rattle.toml.specs.Parse.{parse_document}
use Rattle.a429_profile.specs.Profile.{Contents, Answers}
use Rattle.a429_profile.specs.declared.fault.ProfileFault.{ProfileFault}
use Rattle.a429_profile.specs.declared.fault.ProfileFault.TheVariants.{NotToml}
use Rattle.a429_commands.specs.declared.fault.RunFault.{RunFault}
use Rattle.a429_commands.specs.Fault.{Causes, ComesBy, never}

-- the bytes are the text of a profile that says this
abbrev pub IsProfileOf : List ℕ → Contents → Type 0
IsProfileOf bytes contents = IsUtf8 bytes × Answers (parse_document bytes) (Ok contents)

-- they are, and something holds of what the profile says
abbrev pub WithContents : List ℕ → (Contents → Type 0) → Type 0
WithContents bytes P = (contents : Contents) × IsProfileOf bytes contents × P contents

-- the bytes are no text, or a text with this fault
abbrev pub HasFault : List ℕ → ProfileFault → Type 0
HasFault bytes f = ((¬ IsUtf8 bytes) × (f ≡ NotToml)) ⊎ (IsUtf8 bytes × Answers (parse_document bytes) (Err f))

-- the bytes are the text of some profile
abbrev pub IsSomeProfile : List ℕ → Type 0
IsSomeProfile bytes = (contents : Contents) × IsProfileOf bytes contents

-- why a profile could not be read: its own fault, or, of a text, out of memory
abbrev pub profile_causes : List ℕ → Causes
profile_causes bytes = record never { profile = HasFault bytes; memory = IsUtf8 bytes }

abbrev pub IsProfileFault : List ℕ → RunFault → Type 0
IsProfileFault bytes = ComesBy (profile_causes bytes)
