-- What a recording says that is read entry by entry, or what is wrong with it (profile).
use Rattle.std.specs.Prelude.{◌≡◌, ◌⊎◌, ◌+◌, ℕ, List, Bool, true, Option, Some, IfSome}
use Rattle.a429_profile.specs.Profile.{Contents}
use Rattle.a429_record.specs.declared.entry.Entry.{Entry}
use Rattle.a429_record.specs.declared.fault.ReadFault.{ReadFault}
use Rattle.a429_record.specs.declared.fault.ReadFault.TheVariants as read
use Rattle.a429_record.specs.Recording.{Recording, whole}
use Rattle.a429_commands.specs.declared.fault.RunFault.{RunFault}
use Rattle.a429_commands.specs.declared.fault.RunFault.TheVariants as run
use Rattle.a429_commands.specs.Fault.{Causes, ComesBy, never}
use Rattle.a429_commands.specs.Profile.{IsProfileOf}

-- a profile's text, and what is in a reader of a recording, say these contents and entries; what is in the reader need not be known
pub record SayStream (profile : List ℕ) (rec : Option Recording) : Type 0 where
  pub contents : Contents
  pub entries : List Entry
  pub is_profile : IsProfileOf profile contents
  pub stand : IfSome rec (λ r. r ≡ whole entries)

-- the fault in the rest of a recording, if its bytes are known; a failed reader and refused memory are no faults of the recording
abbrev pub IsFaultToCome : Option Recording → ReadFault → Type 0
IsFaultToCome known read.Device = ⊥
IsFaultToCome known read.OutOfMemory = ⊥
IsFaultToCome known f = IfSome known (λ r. r.fault ≡ Some f)

-- how a command reports why no more entries are read
abbrev pub reported : ReadFault → RunFault
reported read.Device = run.Device
reported read.OutOfMemory = run.Memory
reported f = run.Read f

-- why no more entries are read: the recording has a fault, the reader failed, or memory was refused
abbrev pub next_causes : Option Recording → Bool → Causes
next_causes known failed = record never { recording = IsFaultToCome known; device = failed ≡ true; memory = Unit {0} }

abbrev pub IsNextFault : Option Recording → Bool → RunFault → Type 0
IsNextFault known failed = ComesBy (next_causes known failed)

-- why no more lines are put, under a profile that was read: the recording has a fault, its reader or the output failed, or memory was refused
abbrev pub lines_causes : Option Recording → Bool → Bool → Causes
lines_causes known rec_failed out_failed = record never { recording = IsFaultToCome known; device = (rec_failed ≡ true) ⊎ (out_failed ≡ true); memory = Unit {0} }

abbrev pub IsLinesFault : Option Recording → Bool → Bool → RunFault → Type 0
IsLinesFault known rec_failed out_failed = ComesBy (lines_causes known rec_failed out_failed)

-- where the recording has the fault, these are all the entries before it
abbrev pub AreAllBefore : RunFault → Option Recording → List Entry → Type 0
AreAllBefore (run.Read f) known es = IfSome known (λ r. r.entries ≡ es)
AreAllBefore e known es = Unit {0}

-- at a fault so many entries were handed out: n; where memory was refused, n or one more
abbrev pub AreThoseGiven : RunFault → ℕ → ℕ → Type 0
AreThoseGiven run.Memory given n = (given ≡ n) ⊎ (given ≡ n + 1)
AreThoseGiven e given n = given ≡ n
