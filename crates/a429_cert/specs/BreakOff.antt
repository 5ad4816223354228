-- Where the check of a certificate that is read as a stream breaks off: a device has failed, or memory was refused (profile).
use Rattle.std.specs.Prelude.{◌≡◌, ◌⊎◌, ◌+◌, ◌-◌, ℕ, List, [], ◌∷◌, ◌++◌, Bool, true, Option, slice_get, ⊤}
use Rattle.a429_profile.specs.Profile.{Contents}
use Rattle.a429_word.specs.declared.tally.Tally.{Tally}
use Rattle.a429_word.specs.Tally.{has_failed, unread}
use Rattle.a429_link.specs.declared.file.FileBytes.{FileBytes}
use Rattle.a429_link.specs.State.{State}
use Rattle.a429_record.specs.declared.fault.ReadFault.{ReadFault}
use Rattle.a429_record.specs.Recording.{Recording}
use Rattle.a429_record.specs.Entries.{EntriesLeft}
use Rattle.a429_cert.specs.declared.shelf.PutFile.{PutFile}
use Rattle.a429_cert.specs.declared.stream_fault.StreamFault.{StreamFault}
use Rattle.a429_cert.specs.declared.stream_fault.StreamFault.TheVariants as stream
use Rattle.a429_cert.specs.Version.{step_lines}
use Rattle.a429_cert.specs.CutLines.{HasRead, HasReadTo}
use Rattle.a429_record.specs.Ends.{HasNoEnd}
use Rattle.a429_cert.specs.Stream.{GainsAll}
use Rattle.a429_cert.specs.StreamExplained.{WhereBothKnown, WantsNext, Delivers, IsWantedReadFault, reached}

-- ---- what was read and put until then

-- a certificate's bytes that were to come, those that are still in its reader, and whether it has failed;
-- the recording that was to come, and how many of its entries were handed out
pub record Readers : Type 0 where
  pub certificate : Option (List ℕ)
  pub left : Option (List ℕ)
  pub failed : Bool
  pub recording : Option Recording
  pub given : ℕ

abbrev pub readers : {C : Type 0} → (C → Option (List ℕ)) → Tally C → Tally C → EntriesLeft → EntriesLeft → Readers
readers remaining cert new_cert rec new_rec = record {
  certificate = unread remaining cert;
  left = unread remaining new_cert;
  failed = has_failed new_cert;
  recording = rec.to_come;
  given = new_rec.count - rec.count;
}

-- the files of a shelf before and after, where they are known, and whether it has failed
pub record Shelved : Type 0 where
  pub before : Option (List PutFile)
  pub after : Option (List PutFile)
  pub failed : Bool

abbrev pub shelved : {S : Type 0} → (S → Option (List PutFile)) → (S → Bool) → S → S → Shelved
shelved files failed old new = record { before = files old; after = files new; failed = failed new }

-- where a check has broken off: what was read, whether the shelf and the listener have failed, and the files that were put
pub record Halted : Type 0 where
  pub profile : Contents
  pub read : Readers
  pub shelf : Bool
  pub listener : Bool
  pub files : List FileBytes

abbrev pub halted : Contents → Readers → Bool → Bool → List FileBytes → Halted
halted p read shelf listener files = record { profile = p; read = read; shelf = shelf; listener = listener; files = files }

-- ---- places

-- in the first two lines: no entry was handed out, and no file is put (a line delivers none before the third)
pub record IsInHead (text : List ℕ) (read : Readers) (files : List FileBytes) : Type 0 where
  pub lines : HasReadTo text read.left 0 2
  pub given : read.given ≡ 0
  pub none : files ≡ []

-- between lines: the first two and k more were read whole, and of the next one a part at most; these k lines deliver the files that are put
pub record IsBetweenLines (p : Contents) (text : List ℕ) (r : Recording) (read : Readers) (files : List FileBytes) : Type 0 where
  pub k : ℕ
  pub state : State
  pub before : Delivers p text r (reached k read.given state) files
  pub part : List ℕ
  pub cut : HasNoEnd part
  pub lines : HasRead text read.left (k + 2) part

-- at the line after the first two and k more, or after the last: these k lines deliver the files that are put; the entry that the line wants was handed out or not
pub record IsAtLine (p : Contents) (text : List ℕ) (r : Recording) (read : Readers) (files : List FileBytes) : Type 0 where
  pub k : ℕ
  pub i : ℕ
  pub state : State
  pub before : Delivers p text r (reached k i state) files
  pub lines : HasReadTo text read.left (k + 2) (k + 3)
  pub given : (read.given ≡ i) ⊎ ((read.given ≡ i + 1) × WantsNext p (slice_get (step_lines before.head.version text) k) state)

-- at a file: the lines before one deliver the files that are put; that line delivers one file more, which is not put
pub record IsAtFile (p : Contents) (text : List ℕ) (r : Recording) (read : Readers) (files : List FileBytes) : Type 0 where
  pub k : ℕ
  pub i : ℕ
  pub state : State
  pub before : Delivers p text r (reached k i state) files
  pub file : FileBytes
  pub after : State
  pub here : Delivers p text r (reached (k + 1) read.given after) (files ++ file ∷ [])
  pub lines : HasReadTo text read.left (k + 2) (k + 3)

-- at an entry of the recording: those before it were handed out, and no line after the one that wants it was taken
pub record IsAtEntry (h : Halted) (f : ReadFault) (text : List ℕ) (r : Recording) : Type 0 where
  pub wanted : IsWantedReadFault h.profile text r f h.files
  pub lines : HasReadTo text h.read.left (wanted.k + 2) (wanted.k + 3)
  pub given : h.read.given ≡ wanted.i

-- the place of a fault, by what has failed: the certificate's reader, the shelf or the listener; a fault of the certificate says its line itself
abbrev pub IsPlace : Halted → StreamFault → List ℕ → Recording → Type 0
IsPlace h (stream.Cert f) text r = ⊤
IsPlace h (stream.Read f) text r = IsAtEntry h f text r
IsPlace h stream.Device text r =
    ((h.read.failed ≡ true) × (IsInHead text h.read h.files ⊎ IsBetweenLines h.profile text r h.read h.files))
    ⊎ (((h.shelf ≡ true) × IsAtFile h.profile text r h.read h.files) ⊎ ((h.listener ≡ true) × IsAtLine h.profile text r h.read h.files))
IsPlace h stream.OutOfMemory text r = IsInHead text h.read h.files ⊎ (IsAtFile h.profile text r h.read h.files ⊎ IsAtLine h.profile text r h.read h.files)

-- the files that are put are those of the place, from place 1 on
pub record BreaksOff (p : Contents) (read : Readers) (shelf : Shelved) (listener : Bool) (f : StreamFault) : Type 0 where
  pub files : List FileBytes
  pub place : WhereBothKnown read.certificate read.recording (IsPlace (halted p read shelf.failed listener files) f)
  pub put : GainsAll shelf.before shelf.after 1 files
