-- What the bytes of a recording say, or what is wrong with them (profile).
use Rattle.std.specs.Prelude.{◌≡◌, ℕ, List, Bool, true, Option, Some, IfSome}
use Rattle.a429_profile.specs.Profile.{Contents}
use Rattle.a429_record.specs.declared.entry.Entry.{Entry}
use Rattle.a429_record.specs.declared.fault.ReadFault.{ReadFault}
use Rattle.a429_record.specs.declared.fault.ReadFault.TheVariants as read
use Rattle.a429_record.specs.Recording.{stands_for, whole}
use Rattle.a429_commands.specs.declared.fault.RunFault.{RunFault}
use Rattle.a429_commands.specs.Fault.{Causes, ComesBy, never}
use Rattle.a429_commands.specs.Profile.{IsProfileOf}

-- a profile's text and a recording say these contents and entries; the recording's bytes need not be known
pub record SayInput (profile : List ℕ) (recording : Option (List ℕ)) : Type 0 where
  pub contents : Contents
  pub entries : List Entry
  pub is_profile : IsProfileOf profile contents
  pub stand : IfSome recording (λ bytes. stands_for bytes ≡ whole entries)

-- a recording says these entries; its bytes need not be known
abbrev pub SaysEntries : Option (List ℕ) → List Entry → Type 0
SaysEntries recording es = IfSome recording (λ bytes. stands_for bytes ≡ whole es)

-- the first fault of a recording's bytes, where they are known; a failed reader, out of memory and a fault answered before are none
abbrev pub IsRecordingFault : Option (List ℕ) → ReadFault → Type 0
IsRecordingFault known read.Device = ⊥
IsRecordingFault known read.OutOfMemory = ⊥
IsRecordingFault known read.Failed = ⊥
IsRecordingFault known f = IfSome known (λ bytes. (stands_for bytes).fault ≡ Some f)

-- why a recording could not be read: its own fault, a reader that failed, or out of memory
abbrev pub read_causes : Option (List ℕ) → Bool → Causes
read_causes known failed = record never { recording = IsRecordingFault known; device = failed ≡ true; memory = Unit {0} }

abbrev pub IsReadFault : Option (List ℕ) → Bool → RunFault → Type 0
IsReadFault known failed = ComesBy (read_causes known failed)
