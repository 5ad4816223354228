-- Why a command has no answer, and the exit status of a fault (profile).
use Rattle.std.specs.Prelude.{ℕ}
use Rattle.a429_profile.specs.declared.fault.ProfileFault.{ProfileFault}
use Rattle.a429_ldu.specs.declared.fault.CutFault.{CutFault}
use Rattle.a429_record.specs.declared.fault.ReadFault.{ReadFault}
use Rattle.a429_commands.specs.declared.fault.RunFault.{RunFault}
use Rattle.a429_commands.specs.declared.fault.RunFault.TheVariants.{BadWord, Profile, Read, Cut, Map, Export, TooLong, NoPlace, OldFiles, Device, Memory, Usage}

-- 3: the input is refused; 4: a device failed or memory was refused; 5: wrong usage
abbrev pub status_of : RunFault → ℕ
status_of BadWord = 3
status_of (Profile f) = 3
status_of (Read f) = 3
status_of (Cut k f) = 3
status_of (Map f) = 3
status_of (Export f) = 3
status_of TooLong = 3
status_of NoPlace = 3
status_of OldFiles = 3
status_of Device = 4
status_of Memory = 4
status_of Usage = 5

-- what has to hold where a command answers a fault of each kind
pub record Causes : Type 1 where
  pub profile : ProfileFault → Type 0
  pub recording : ReadFault → Type 0
  pub file : ℕ → CutFault → Type 0
  pub too_long : Type 0
  pub no_place : Type 0
  pub device : Type 0
  pub memory : Type 0

-- no fault comes
abbrev pub never : Causes
never = record { profile = λ f. ⊥; recording = λ f. ⊥; file = λ k f. ⊥; too_long = ⊥; no_place = ⊥; device = ⊥; memory = ⊥ }

-- the fault comes by these causes; what reads a profile, a recording or files answers no bad word and no wrong usage, and sees no map, no export
-- and no folder
abbrev pub ComesBy : Causes → RunFault → Type 0
ComesBy c (Profile f) = c.profile f
ComesBy c (Read f) = c.recording f
ComesBy c (Cut k f) = c.file k f
ComesBy c TooLong = c.too_long
ComesBy c NoPlace = c.no_place
ComesBy c Device = c.device
ComesBy c Memory = c.memory
ComesBy c BadWord = ⊥
ComesBy c Usage = ⊥
ComesBy c OldFiles = ⊥
ComesBy c (Map f) = ⊥
ComesBy c (Export f) = ⊥
