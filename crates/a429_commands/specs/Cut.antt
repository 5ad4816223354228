-- What `a429 cut` puts and writes, and what it leaves after a fault (profile).
use Rattle.std.specs.Prelude.{◌≡◌, ◌≤◌, ◌+◌, ◌⊎◌, ◌++◌, ℕ, List, length, Bool, true, false, Option, IfSome}
use Rattle.a429_word.specs.declared.trouble.Trouble.{Trouble}
use Rattle.a429_word.specs.declared.trouble.Trouble.TheVariants as trouble
use Rattle.a429_word.specs.Tally.{Puts}
use Rattle.a429_profile.specs.Profile.{Contents}
use Rattle.a429_record.specs.declared.entry.Entry.{Entry}
use Rattle.a429_record.specs.declared.fault.ReadFault.{ReadFault}
use Rattle.a429_record.specs.declared.fault.ReadFault.TheVariants as read
use Rattle.a429_record.specs.Recording.{Recording, whole}
use Rattle.a429_record.specs.Rows.{Stops}
use Rattle.a429_parts.specs.Keeping.{BeginsWith, Taken, with_entries}
use Rattle.a429_parts.specs.Parts.{AreFirstParts, AreParts, AreSomeParts, GainsAll, GainsParts, IsSame, PutParts, joined, list_text}
use Rattle.a429_parts.specs.Parting.{CannotGoOn}
use Rattle.a429_commands.specs.declared.fault.RunFault.{RunFault}
use Rattle.a429_commands.specs.declared.fault.RunFault.TheVariants as run
use Rattle.a429_commands.specs.Ends.{Promise}
use Rattle.a429_commands.specs.Fault.{ComesBy, never}
use Rattle.a429_commands.specs.Output.{Output}
use Rattle.a429_commands.specs.Profile.{IsProfileFault, WithContents}
use Rattle.a429_commands.specs.Streaming.{IsFaultToCome, reported}

-- a recording that is to be cut into parts of at most so many entries: what was taken of it, and whether its reader has failed
pub record Task : Type 0 where
  pub most : ℕ
  pub taken : Taken
  pub failed : Bool

-- the same, of its three parts
abbrev pub task : ℕ → Taken → Bool → Task
task most t failed = record { most = most; taken = t; failed = failed }

-- the parts that were put, where they are known, before and after, and whether what takes them has failed
pub record Placed : Type 0 where
  pub old : Option PutParts
  pub new : Option PutParts
  pub failed : Bool

-- the same, of what takes the parts, before and after
abbrev pub placed : {P : Type 0} → (P → Option PutParts) → (P → Bool) → P → P → Placed
placed known failed old new = record { old = known old; new = known new; failed = failed new }

-- all parts of the recording, which has no fault, were put, numbered from 1, and no list yet, which is this text
pub record CutsInto (t : Task) (o : Placed) (p : Contents) (list : List ℕ) : Type 0 where
  pub entries : List Entry
  pub parts : List (List Entry)
  pub came : t.taken.given ≡ length entries
  pub all : IfSome t.taken.recording (λ r. r ≡ whole entries)
  pub are : AreParts p t.most entries parts
  pub gains : GainsParts o.old o.new parts
  pub text : list ≡ list_text parts

-- and the output has gained the same lines
abbrev pub PutsList : {W : Type 0} → Task → Placed → Contents → Output W → List ℕ → Type 0
PutsList t o p out list = CutsInto t o p list × Puts out.contents out.old out.new list

-- all parts of the recording, which has no fault, were put, numbered from 1, and then their list; these are their lines
pub record PutsAllParts (t : Task) (o : Placed) (p : Contents) (text : List ℕ) : Type 0 where
  pub entries : List Entry
  pub parts : List (List Entry)
  pub came : t.taken.given ≡ length entries
  pub all : IfSome t.taken.recording (λ r. r ≡ whole entries)
  pub are : AreParts p t.most entries parts
  pub gains : GainsAll o.old o.new parts
  pub text_is : text ≡ list_text parts

-- the parts before this fault were put, and no list; these are their lines: it is the recording's, or more entries wait than a part may have, and no place is near enough. Of the entries that were handed out at most twice as many as a part may have, and one, are in no part
pub record PutsFirstParts (t : Task) (o : Placed) (fault : ReadFault) (p : Contents) (text : List ℕ) : Type 0 where
  pub entries : List Entry
  pub parts : List (List Entry)
  pub came : t.taken.given ≡ length entries
  pub rest : List Entry
  pub few : length rest ≤ t.most + t.most + 1
  pub are : AreFirstParts p t.most entries parts rest
  pub ends : IfSome t.taken.recording (λ r. (later : Recording) × (r ≡ with_entries entries later) × (Stops fault later ⊎ CannotGoOn p t.most (entries ++ later.entries) (length (joined parts)) rest fault))
  pub gains : GainsParts o.old o.new parts
  pub text_is : text ≡ list_text parts

-- some first parts of the entries that were handed out were put, or all of them, and no list; these are their lines
pub record PutsSomeParts (t : Task) (o : Placed) (p : Contents) (text : List ℕ) : Type 0 where
  pub entries : List Entry
  pub parts : List (List Entry)
  pub came : t.taken.given ≡ length entries
  pub first : BeginsWith t.taken.recording entries
  pub are : AreSomeParts p t.most entries parts
  pub gains : GainsParts o.old o.new parts
  pub text_is : text ≡ list_text parts

-- by the fault that comes after the profile was read
abbrev pub PutsPartsUntil : Task → Placed → RunFault → Contents → List ℕ → Type 0
PutsPartsUntil t o (run.Read f) p text = PutsFirstParts t o f p text
PutsPartsUntil t o run.NoPlace p text = PutsFirstParts t o read.TooMany p text
PutsPartsUntil t o run.Device p text = PutsSomeParts t o p text
PutsPartsUntil t o run.Memory p text = PutsSomeParts t o p text
PutsPartsUntil t o e p text = ⊥

-- how `cut` reports why no more parts are put: where more entries wait than a part may have, no place to cut is near enough
abbrev pub reported_by_cut : ReadFault → RunFault
reported_by_cut read.TooMany = run.NoPlace
reported_by_cut f = reported f

-- why no more parts are put: the recording has a fault; no place is near enough; the reader or what takes the parts has failed; or out of memory
abbrev pub IsPartsFault : Task → Placed → RunFault → Type 0
IsPartsFault t o = ComesBy (record never { recording = IsFaultToCome t.taken.recording; no_place = Unit {0}; device = (t.failed ≡ true) ⊎ (o.failed ≡ true); memory = Unit {0} })

-- with status 0 neither the reader nor what takes the parts has failed
abbrev pub BothWork : Task → Placed → Type 0
BothWork t o = (t.failed ≡ false) × (o.failed ≡ false)

-- `cut` puts the parts and writes their lines, under a profile that was read; nothing where no page could be had
abbrev pub of_parts : Contents → Task → Placed → Promise
of_parts p t o = record {
  says = λ status text. (status ≡ 0) × PutsAllParts t o p text × BothWork t o;
  stops = λ e text. PutsPartsUntil t o e p text × IsPartsFault t o e;
  begins = PutsSomeParts t o p;
  refuses = λ e. (e ≡ run.Memory) × IsSame o.old o.new;
}

-- by the bytes of its text: nothing is put or written where it could not be read
abbrev pub of_cut : List ℕ → Task → Placed → Promise
of_cut profile t o = record {
  says = λ status text. (status ≡ 0) × WithContents profile (λ p. PutsAllParts t o p text) × BothWork t o;
  stops = λ e text. WithContents profile (λ p. PutsPartsUntil t o e p text) × IsPartsFault t o e;
  begins = λ text. WithContents profile (λ p. PutsSomeParts t o p text);
  refuses = λ e. IsProfileFault profile e × IsSame o.old o.new;
}

-- how a command reports why a list was not put
abbrev pub troubled : Trouble → RunFault
troubled trouble.Device = run.Device
troubled trouble.OutOfMemory = run.Memory
