-- What `a429 side` writes, how it ends (profile).
use Rattle.std.specs.Prelude.{◌≡◌, ◌⊎◌, ℕ, List, length, Bool, false, Result, IfSome}
use Rattle.a429_word.specs.Tally.{has_failed, Puts}
use Rattle.a429_profile.specs.Profile.{Contents}
use Rattle.a429_record.specs.declared.entry.Entry.{Entry}
use Rattle.a429_record.specs.declared.fault.ReadFault.{ReadFault}
use Rattle.a429_record.specs.declared.fault.ReadFault.TheVariants as read
use Rattle.a429_record.specs.Recording.{Recording, whole}
use Rattle.a429_record.specs.Rows.{Stops}
use Rattle.a429_parts.specs.Keeping.{BeginsWith, Taken, with_entries}
use Rattle.a429_side.specs.declared.counts.Counts.{Counts}
use Rattle.a429_side.specs.declared.lot.Side.{Side}
use Rattle.a429_side.specs.Counts.{AreCounts, counts_text}
use Rattle.a429_side.specs.Side.{lots_of}
use Rattle.a429_side.specs.Siding.{side_text, side_text_before}
use Rattle.a429_commands.specs.declared.fault.RunFault.{RunFault}
use Rattle.a429_commands.specs.declared.fault.RunFault.TheVariants as run
use Rattle.a429_commands.specs.Ends.{Ends, Promise, of_stream, of_text}
use Rattle.a429_commands.specs.Output.{Output}
use Rattle.a429_commands.specs.Profile.{IsProfileOf}

-- ---- OUT is not written whole

-- no text: where OUT is whole, it does not end so
abbrev pub NoRows : Contents → Taken → ℕ → List ℕ → Type 0
NoRows p t status text = ⊥

-- what is written of the entries before a fault; nothing where there was none
pub record SidesRowsBefore (s : Side) (p : Contents) (t : Taken) (fault : ReadFault) (text : List ℕ) : Type 0 where
  pub entries : List Entry
  pub came : t.given ≡ length entries
  pub stops : IfSome t.recording (λ r. (rest : Recording) × (r ≡ with_entries entries rest) × Stops fault rest)
  pub text_is : text ≡ side_text_before p.codes s entries

-- by the fault of the command
abbrev pub SidesRowsUntil : Side → Contents → Taken → RunFault → List ℕ → Type 0
SidesRowsUntil s p t (run.Read f) text = SidesRowsBefore s p t f text
SidesRowsUntil s p t run.Memory text = SidesRowsBefore s p t read.OutOfMemory text
SidesRowsUntil s p t run.Device text = SidesRowsBefore s p t read.Device text
SidesRowsUntil s p t e text = ⊥

-- what is written of some first entries
pub record SidesSomeRows (s : Side) (p : Contents) (t : Taken) (text : List ℕ) : Type 0 where
  pub entries : List Entry
  pub first : BeginsWith t.recording entries
  pub text_is : (text ≡ side_text p.codes s entries) ⊎ (text ≡ side_text_before p.codes s entries)

-- ---- OUT is whole

-- it has what is written of all entries of the recording, which has no fault, and the counts are theirs
pub record IsSided {C : Type 0} (s : Side) (p : Contents) (t : Taken) (o : Output C) (counts : Counts) : Type 0 where
  pub entries : List Entry
  pub came : t.given ≡ length entries
  pub all : IfSome t.recording (λ r. r ≡ whole entries)
  pub counted : AreCounts counts (lots_of p.codes s entries)
  pub works : has_failed o.new ≡ false
  pub puts : Puts o.contents o.old o.new (side_text p.codes s entries)

-- by the bytes of a profile's text
pub record IsSidedBy {C : Type 0} (s : Side) (profile : List ℕ) (t : Taken) (o : Output C) (counts : Counts) : Type 0 where
  pub contents : Contents
  pub is_profile : IsProfileOf profile contents
  pub sided : IsSided s contents t o counts

-- ---- the counts

-- they are written, and with them status 0
abbrev pub of_counts : Side → Counts → Promise
of_counts s counts = of_text (λ status text. (status ≡ 0) × (text ≡ counts_text s counts)) (λ text. text ≡ counts_text s counts) ⊥

-- ---- how it ends

-- what it is given: the words that are wanted, the bytes of a profile's text, what was taken of a recording, and whether its reader has failed
pub record SideInput : Type 0 where
  pub side : Side
  pub profile : List ℕ
  pub taken : Taken
  pub failed : Bool

abbrev pub of_rows : SideInput → Promise
of_rows i = of_stream i.profile i.taken i.failed NoRows (SidesRowsUntil i.side) (SidesSomeRows i.side)

-- OUT is whole, and then the counts are written to the output; or OUT is not, and the output is untouched
pub data EndsSided {C W : Type 0} (i : SideInput) (rows : Output C) (o : Output W) (r : Result ℕ RunFault) : Type 0 where
  sided : (counts : Counts) (is : IsSidedBy i.side i.profile i.taken rows counts) (works : i.failed ≡ false) (said : Ends o (of_counts i.side counts) r) → EndsSided i rows o r
  unsided : (ends : Ends rows (of_rows i) r) (same : o.new ≡ o.old) → EndsSided i rows o r
