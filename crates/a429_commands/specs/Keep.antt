-- What `a429 keep` writes, and what it leaves after a fault (profile).
use Rattle.std.specs.Prelude.{◌≡◌, ◌⊎◌, ℕ, List, length, IfSome}
use Rattle.a429_profile.specs.Profile.{Contents}
use Rattle.a429_record.specs.declared.entry.Entry.{Entry}
use Rattle.a429_record.specs.declared.fault.ReadFault.{ReadFault}
use Rattle.a429_record.specs.declared.fault.ReadFault.TheVariants as read
use Rattle.a429_record.specs.Recording.{Recording, whole}
use Rattle.a429_record.specs.Rows.{Stops}
use Rattle.a429_parts.specs.Keeping.{BeginsWith, Taken, kept_text, kept_text_before, with_entries}
use Rattle.a429_commands.specs.declared.fault.RunFault.{RunFault}
use Rattle.a429_commands.specs.declared.fault.RunFault.TheVariants as run

-- with status 0, the text recording of the entries of a recording that are kept; the recording has no fault, and these are all that were handed out
pub record KeepsRows (p : Contents) (t : Taken) (status : ℕ) (text : List ℕ) : Type 0 where
  pub entries : List Entry
  pub came : t.given ≡ length entries
  pub all : IfSome t.recording (λ r. r ≡ whole entries)
  pub status_is : status ≡ 0
  pub text_is : text ≡ kept_text p.codes entries

-- that of the entries that were handed out before a fault; nothing where none was
pub record KeepsRowsBefore (p : Contents) (t : Taken) (fault : ReadFault) (text : List ℕ) : Type 0 where
  pub entries : List Entry
  pub came : t.given ≡ length entries
  pub stops : IfSome t.recording (λ r. (rest : Recording) × (r ≡ with_entries entries rest) × Stops fault rest)
  pub text_is : text ≡ kept_text_before p.codes entries

-- by the fault of the command
abbrev pub KeepsRowsUntil : Contents → Taken → RunFault → List ℕ → Type 0
KeepsRowsUntil p t (run.Read f) text = KeepsRowsBefore p t f text
KeepsRowsUntil p t run.Memory text = KeepsRowsBefore p t read.OutOfMemory text
KeepsRowsUntil p t run.Device text = KeepsRowsBefore p t read.Device text
KeepsRowsUntil p t e text = ⊥

-- that of some first entries
pub record KeepsSomeRows (p : Contents) (t : Taken) (text : List ℕ) : Type 0 where
  pub entries : List Entry
  pub first : BeginsWith t.recording entries
  pub text_is : (text ≡ kept_text p.codes entries) ⊎ (text ≡ kept_text_before p.codes entries)
