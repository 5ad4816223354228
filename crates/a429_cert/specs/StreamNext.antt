-- The next line of a certificate that is read as a stream, or the next two at once (profile).
use Rattle.std.specs.Prelude.{◌≡◌, ◌⊎◌, ◌+◌, ◌<◌, ◌≤◌, ℕ, List, Bool, true, false, length, Option}
use Rattle.std.specs.Io.KnownBytes.{prepend_known, Keeps}
use Rattle.a429_record.specs.Entries.{EntriesLeft}
use Rattle.a429_cert.specs.declared.shelf.PutFile.{PutFile}
use Rattle.a429_cert.specs.declared.replay.Replay.{Replay}
use Rattle.a429_cert.specs.declared.stream_fault.StreamFault.{StreamFault}
use Rattle.a429_cert.specs.declared.stream_fault.StreamFault.TheVariants as stream
use Rattle.a429_cert.specs.Change.{change}
use Rattle.a429_cert.specs.CutLines.{GivesLine}
use Rattle.a429_record.specs.Ends.{HasNoEnd}
use Rattle.a429_cert.specs.Report.{Hearing, listening}
use Rattle.a429_cert.specs.Stream.{taking, GoesOn, HearsLine, IsUnreported, OneFailed, StopsAt}
use Rattle.a429_record.specs.declared.fault.ReadFault.TheVariants as read

-- how far a check has come: its replay, what is still to come of the certificate, where that is known, and of the recording, the shelf and the listener
pub record Progress (S T : Type 0) : Type 0 where
  pub replay : Replay
  pub left : Option (List ℕ)
  pub recording : EntriesLeft
  pub shelf : S
  pub listener : T

abbrev pub progress : {S T : Type 0} → Replay → Option (List ℕ) → EntriesLeft → S → T → Progress S T
progress replay left recording shelf listener = record { replay = replay; left = left; recording = recording; shelf = shelf; listener = listener }

-- the replay with its next line counted
abbrev pub at_next : Replay → Replay
at_next replay = record replay { lines = replay.lines + 1 }

-- ---- it goes on

-- over the next line, whose step uses so many entries and is reported, and all that the step delivers is put
pub record TakesOne {S T : Type 0} (files : S → Option (List PutFile)) (hears : Hearing T) (old new : Progress S T) : Type 0 where
  pub line : Option (List ℕ)
  pub used : ℕ
  pub given : GivesLine old.left new.left line true
  pub goes_on : GoesOn files (taking old.replay line (change old.recording new.recording) (change old.shelf new.shelf)) new.replay used
  pub heard : HearsLine (listening hears old.listener new.listener) old.replay line old.recording.to_come
  pub few : used ≤ 1
  pub counts : new.recording.count ≡ old.recording.count + used
  pub kept : new.replay ≡ record (old.replay) { link = new.replay.link; files = new.replay.files; lines = old.replay.lines + 1; used = old.replay.used + used }
  pub profile : new.replay.link.profile ≡ old.replay.profile.now

-- or over the next two, one after the other
abbrev pub TakesSome : {S T : Type 0} → (S → Option (List PutFile)) → Hearing T → Progress S T → Progress S T → Type 0
TakesSome {S} {T} files hears old new = TakesOne files hears old new ⊎ ((mid : Progress S T) × TakesOne files hears old mid × TakesOne files hears mid new)

-- ---- no line is left

pub record TakesNone {S T : Type 0} (old new : Progress S T) : Type 0 where
  pub line : Option (List ℕ)
  pub given : GivesLine old.left new.left line false
  pub kept : Keeps old.left new.left
  pub replay : new.replay ≡ old.replay
  pub recording : new.recording ≡ old.recording
  pub shelf : new.shelf ≡ old.shelf
  pub listener : new.listener ≡ old.listener

-- ---- it stops

-- a reader of a certificate: the bytes that are not read yet, where they are known, and whether it has failed
pub record Unread : Type 0 where
  pub bytes : Option (List ℕ)
  pub failed : Bool

abbrev pub unread_of : Option (List ℕ) → Bool → Unread
unread_of bytes failed = record { bytes = bytes; failed = failed }

-- in a line of which no more comes: the certificate's reader has failed
pub record StopsInLine {S T : Type 0} (reader : Unread) (old new : Progress S T) (f : StreamFault) : Type 0 where
  pub fault : f ≡ stream.Device
  pub failed : reader.failed ≡ true
  pub ahead : List ℕ
  pub part : HasNoEnd ahead
  pub kept : Keeps old.left (prepend_known ahead reader.bytes)
  pub recording : new.recording ≡ old.recording
  pub shelf : new.shelf ≡ old.shelf

-- at the next line, after which these bytes were read
pub record StopsAtNext {S T : Type 0} (files : S → Option (List PutFile)) (failed : S → Bool) (broken : T → Bool) (reader : Unread) (old new : Progress S T) (f : StreamFault) : Type 0 where
  pub line : Option (List ℕ)
  pub ahead : List ℕ
  pub few : length ahead ≤ 2288
  pub given : GivesLine old.left (prepend_known ahead reader.bytes) line true
  pub stopped : StopsAt files failed (broken new.listener) (taking (at_next old.replay) line (change old.recording new.recording) (change old.shelf new.shelf)) f
  pub unreported : IsUnreported old.listener new.listener f

abbrev pub Stops : {S T : Type 0} → (S → Option (List PutFile)) → (S → Bool) → (T → Bool) → Unread → Progress S T → Progress S T → StreamFault → Type 0
Stops files failed broken reader old new f = StopsInLine reader old new f ⊎ StopsAtNext files failed broken reader old new f

-- ---- what a call that takes the next line answers

-- it goes on so, with fewer bytes that may come, by a line's at least
pub record GoesFurther {S T : Type 0} (Takes : Progress S T → Progress S T → Type 0) (room left : ℕ) (old new : Progress S T) : Type 0 where
  pub takes : Takes old new
  pub shorter : left < room
  pub lines : new.replay.lines + left ≤ old.replay.lines + room

-- no line is left: so many bytes were read ahead, and the certificate's reader works
pub record IsAtEnd {S T : Type 0} (ahead : ℕ) (failed : Bool) (old new : Progress S T) : Type 0 where
  pub none : TakesNone old new
  pub few : ahead ≤ 2288
  pub works : failed ≡ false

-- it stops: where it says that a device has failed, one has
pub record Halts {S T : Type 0} (files : S → Option (List PutFile)) (failed : S → Bool) (broken : T → Bool) (reader : Unread) (old new : Progress S T) (f : StreamFault) : Type 0 where
  pub stops : Stops files failed broken reader old new f
  pub device : f ≡ stream.Device → OneFailed reader.failed (failed new.shelf) (broken new.listener)
  pub read : f ≡ stream.Read read.Device → new.recording.failed ≡ true
