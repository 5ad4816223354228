-- What a certificate explains, and its first fault, where it and the recording are read as a stream (profile).
use Rattle.std.specs.Prelude.{◌≡◌, ◌≢◌, ◌⊎◌, ◌≤◌, ℕ, List, [], length, take, Option, Some, None, slice_get, ⊤, Vec}
use Rattle.std.specs.List.{FoldsTo}
use Rattle.a429_word.specs.declared.tally.Tally.{Tally}
use Rattle.a429_word.specs.Tally.{unread}
use Rattle.a429_profile.specs.Profile.{Contents}
use Rattle.a429_link.specs.declared.file.FileBytes.{FileBytes}
use Rattle.a429_link.specs.State.{State}
use Rattle.a429_record.specs.declared.fault.ReadFault.{ReadFault}
use Rattle.a429_record.specs.declared.fault.ReadFault.TheVariants as read
use Rattle.a429_record.specs.Recording.{Recording}
use Rattle.a429_record.specs.Rows.{Stops}
use Rattle.a429_record.specs.Entries.{EntriesLeft}
use Rattle.a429_cert.specs.declared.fault.CertFault.{CertFault}
use Rattle.a429_cert.specs.declared.fault.CertFault.TheVariants as of
use Rattle.a429_cert.specs.declared.shelf.PutFile.{PutFile}
use Rattle.a429_cert.specs.declared.stream_fault.StreamFault.{StreamFault}
use Rattle.a429_cert.specs.declared.stream_fault.StreamFault.TheVariants as stream
use Rattle.a429_cert.specs.declared.explained.Head.{Head}
use Rattle.a429_cert.specs.Version.{step_lines}
use Rattle.a429_cert.specs.Explained.{items_of, Reaches, IsExplained, AreInSomeRun, AreInEveryRun}
use Rattle.a429_cert.specs.Fault.{HasHead, IsFaultOfHead, IsLaterFault, IsFirstCertFault}
use Rattle.a429_cert.specs.Change.{Change}
use Rattle.a429_cert.specs.Report.{Report, reports_of_run, Listening, IsHeard}
use Rattle.a429_cert.specs.Stream.{left_after, WantsEntry, GainsAll, sizes}

-- what holds of the certificate and the recording, where both are known
abbrev pub WhereBothKnown : Option (List ℕ) → Option Recording → (List ℕ → Recording → Type 0) → Type 0
WhereBothKnown None rec Holds = ⊤
WhereBothKnown (Some text) None Holds = ⊤
WhereBothKnown (Some text) (Some r) Holds = Holds text r

-- a certificate and a recording that are compared under a profile, where what their readers have to read is known
pub record Compared : Type 0 where
  pub profile : Contents
  pub certificate : Option (List ℕ)
  pub recording : Option Recording

abbrev pub compared : Contents → Option (List ℕ) → Option Recording → Compared
compared p known rec = record { profile = p; certificate = known; recording = rec }

-- those that are still in two readers
abbrev pub comparison : {C : Type 0} → Contents → (C → Option (List ℕ)) → Tally C → EntriesLeft → Compared
comparison p remaining cert rec = compared p (unread remaining cert) rec.to_come

-- ---- a yes

-- the certificate explains the whole recording by a run, which delivers these files, as does each other run that records the same words
abbrev pub IsYes : Contents → List FileBytes → List ℕ → Recording → Type 0
IsYes p files text r = (r.fault ≡ None) × IsExplained p text (items_of r.entries) files × AreInEveryRun p (items_of r.entries) files

-- such files are put, from place 1 on, and their numbers and lengths are the answer
pub record Extracts (c : Compared) (shelf : Change (Option (List PutFile))) (answer : List (ℕ × ℕ)) : Type 0 where
  pub files : List FileBytes
  pub yes : WhereBothKnown c.certificate c.recording (IsYes c.profile files)
  pub put : GainsAll shelf.old shelf.new 1 files
  pub answered : answer ≡ sizes files

-- some run records the words of the recording and no others, and delivers such files; certificate and recording are known
abbrev pub IsSomeRun : Contents → List FileBytes → List ℕ → Recording → Type 0
IsSomeRun p files text r = AreInSomeRun p (items_of r.entries) files

-- files that some run of the recorded words delivers are put, from place 1 on, and their numbers and lengths are the answer
pub record ExtractsOfRun (c : Compared) (shelf : Change (Option (List PutFile))) (answer : List (ℕ × ℕ)) : Type 0 where
  pub files : List FileBytes
  pub some : WhereBothKnown c.certificate c.recording (IsSomeRun c.profile files)
  pub put : GainsAll shelf.old shelf.new 1 files
  pub answered : answer ≡ sizes files

-- the answer is those of such files
abbrev pub SaysYes : {Z : Type 0} → Compared → Change (Option (List PutFile)) → Vec (ℕ × ℕ) Z → Type 0
SaysYes c shelf answer = Extracts c shelf answer.items

-- the answer is those of files that some run delivers
abbrev pub SaysFilesOfRun : {Z : Type 0} → Compared → Change (Option (List PutFile)) → Vec (ℕ × ℕ) Z → Type 0
SaysFilesOfRun c shelf answer = ExtractsOfRun c shelf answer.items

-- a listener has heard the run by which the certificate explains the recording, where both are known
abbrev pub HearsRun : {T : Type 0} → Listening T → Compared → Type 0
HearsRun l c = WhereBothKnown c.certificate c.recording (IsHeard l c.profile)

-- ---- a fault

-- how far a run is replayed: so many lines after the first two, so many entries, and the state that it has reached
pub record Reached : Type 0 where
  pub lines : ℕ
  pub entries : ℕ
  pub state : State

abbrev pub reached : ℕ → ℕ → State → Reached
reached k i s = record { lines = k; entries = i; state = s }

-- so many lines after the first two are the steps of a run over so many entries, which reaches this state and delivers these files
pub record Delivers (p : Contents) (text : List ℕ) (r : Recording) (at : Reached) (files : List FileBytes) : Type 0 where
  pub head : Head
  pub says : HasHead text head
  pub inside : at.entries ≤ length (items_of r.entries)
  pub before : Reaches p head.first (take at.lines (step_lines head.version text)) (take at.entries (items_of r.entries)) at.state
  pub gives : files ≡ at.state.sink.received.files

-- a certificate's fault that says that no entry is left comes only where the recording has no fault there
abbrev pub EndsAt : Recording → CertFault → Type 0
EndsAt r (of.WordDiffers n i) = slice_get (items_of r.entries) i ≡ None → r.fault ≡ None
EndsAt r _ = ⊤

-- the files that the lines before a certificate's fault deliver
abbrev pub AreBeforeFault : Contents → List ℕ → Recording → CertFault → List FileBytes → Type 0
AreBeforeFault p text r f files = (IsFaultOfHead text f × (files ≡ [])) ⊎ ((h : IsLaterFault p text (items_of r.entries) f) × (files ≡ h.state.sink.received.files))

-- the next line wants an entry, or there is none
abbrev pub WantsNext : Contents → Option (Option (List ℕ)) → State → Type 0
WantsNext p None s = ⊤
WantsNext p (Some line) s = WantsEntry p line s

-- the recording's fault comes where its entry is wanted first
pub record IsWantedReadFault (p : Contents) (text : List ℕ) (r : Recording) (f : ReadFault) (files : List FileBytes) : Type 0 where
  pub k : ℕ
  pub i : ℕ
  pub state : State
  pub before : Delivers p text r (reached k i state) files
  pub wants : WantsNext p (slice_get (step_lines before.head.version text) k) state
  pub fault : Stops f (left_after i r)
  pub reports : f ≢ read.OutOfMemory

-- some lines deliver these files, and no others
pub record AreOfLines (p : Contents) (text : List ℕ) (r : Recording) (files : List FileBytes) : Type 0 where
  pub k : ℕ
  pub i : ℕ
  pub state : State
  pub before : Delivers p text r (reached k i state) files

abbrev pub IsStreamFault : Contents → StreamFault → List FileBytes → List ℕ → Recording → Type 0
IsStreamFault p (stream.Cert f) files text r = IsFirstCertFault p text (items_of r.entries) f × EndsAt r f × AreBeforeFault p text r f files
IsStreamFault p (stream.Read f) files text r = IsWantedReadFault p text r f files
IsStreamFault p stream.Device files text r = (files ≡ []) ⊎ AreOfLines p text r files
IsStreamFault p stream.OutOfMemory files text r = (files ≡ []) ⊎ AreOfLines p text r files

-- the fault comes first, and the files of the lines before it are put, from place 1 on
pub record Refuses (c : Compared) (shelf : Change (Option (List PutFile))) (f : StreamFault) : Type 0 where
  pub files : List FileBytes
  pub fault : WhereBothKnown c.certificate c.recording (IsStreamFault c.profile f files)
  pub put : GainsAll shelf.old shelf.new 1 files

-- ---- what is reported before a fault

-- what is reported of the lines before the fault, which comes first: of a run's first steps, in order, and of no other
abbrev pub AreReportedBefore : Contents → StreamFault → List Report → List ℕ → Recording → Type 0
AreReportedBefore p (stream.Cert f) reports text r = (IsFaultOfHead text f × (reports ≡ [])) ⊎ ((h : IsLaterFault p text (items_of r.entries) f) × (reports ≡ reports_of_run p r.entries h.head.first h.before.steps))
AreReportedBefore p (stream.Read f) reports text r = (files : List FileBytes) × (h : IsWantedReadFault p text r f files) × (reports ≡ reports_of_run p r.entries h.before.head.first h.before.before.steps)
AreReportedBefore p stream.Device reports text r = ⊤
AreReportedBefore p stream.OutOfMemory reports text r = ⊤

-- a listener has heard the steps of the lines before the fault, each once and in order, and nothing else
pub record IsHeardBefore {T : Type 0} (l : Listening T) (p : Contents) (f : StreamFault) (text : List ℕ) (r : Recording) : Type 0 where
  pub reports : List Report
  pub before : AreReportedBefore p f reports text r
  pub heard : FoldsTo (l.hears p) l.old reports l.new

-- it has, where both are known and the fault is one of the certificate or of the recording: another may be the listener's own
abbrev pub HearsBefore : {T : Type 0} → Listening T → Compared → StreamFault → Type 0
HearsBefore l c (stream.Cert f) = WhereBothKnown c.certificate c.recording (IsHeardBefore l c.profile (stream.Cert f))
HearsBefore l c (stream.Read f) = WhereBothKnown c.certificate c.recording (IsHeardBefore l c.profile (stream.Read f))
HearsBefore l c stream.Device = ⊤
HearsBefore l c stream.OutOfMemory = ⊤
