-- What `keep` writes before a fault.
use Rattle.std.proofs.Common.{◌≡◌, ℕ, List, Option, Some, None}
use Rattle.std.specs.Prelude.{IfSome}
use Rattle.a429_profile.specs.Profile.{Contents}
use Rattle.a429_record.specs.declared.entry.Entry.{Entry}
use Rattle.a429_record.specs.declared.fault.ReadFault.{ReadFault}
use Rattle.a429_record.specs.declared.fault.ReadFault.TheVariants as read
use Rattle.a429_record.specs.Recording.{Recording}
use Rattle.a429_record.specs.Rows.{Stops}
use Rattle.a429_parts.specs.Keeping.{BeginsWith, Taken, with_entries}
use Rattle.a429_commands.specs.Keep.{KeepsRowsBefore, KeepsRowsUntil}
use Rattle.a429_commands.specs.Streaming.{reported}

-- these entries come before this fault
abbrev pub ComesAfter : Option Recording → List Entry → ReadFault → Type 0
ComesAfter rec es f = IfSome rec (λ r. (rest : Recording) × (r ≡ with_entries es rest) × Stops f rest)

pub begins : (rec : Option Recording) (es : List Entry) (f : ReadFault) → ComesAfter rec es f → BeginsWith rec es
begins None es f h = tt
begins (Some r) es f (rest, is, stop) = (rest, is)

-- as the command reports it
pub before_fault : (p : Contents) (t : Taken) (f : ReadFault) (text : List ℕ)
    → KeepsRowsBefore p t f text → KeepsRowsUntil p t (reported f) text
before_fault p t read.Device text h = h
before_fault p t read.OutOfMemory text h = h
before_fault p t read.Header text h = h
before_fault p t (read.Row i) text h = h
before_fault p t (read.TimeBack i) text h = h
before_fault p t read.TooMany text h = h
before_fault p t read.Failed text h = h
