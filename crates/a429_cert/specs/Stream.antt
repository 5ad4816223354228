-- A certificate held against a recording, both read as a stream (profile).
use Rattle.std.specs.Prelude.{◌≡◌, ◌≢◌, ◌⊎◌, Bool, true, ◌+◌, ℕ, zero, suc, List, [], ◌∷◌, ◌++◌, length, drop, map, Option, Some, None, slice_get, ⊤, IfSome, IsSome, ◌≤◌}
use Rattle.a429_profile.specs.Profile.{Contents}
use Rattle.a429_link.specs.declared.seen.Seen.{Seen}
use Rattle.a429_link.specs.State.{State}
use Rattle.a429_link.specs.Link.{handed_out}
use Rattle.a429_record.specs.declared.fault.ReadFault.{ReadFault}
use Rattle.a429_record.specs.declared.fault.ReadFault.TheVariants as read
use Rattle.a429_record.specs.declared.entry.Entry.{Entry}
use Rattle.a429_record.specs.Recording.{Recording, whole}
use Rattle.a429_record.specs.Rows.{Stops}
use Rattle.a429_record.specs.Entries.{EntriesLeft}
use Rattle.a429_cert.specs.declared.fault.CertFault.{CertFault}
use Rattle.a429_cert.specs.declared.fault.CertFault.TheVariants as of
use Rattle.a429_cert.specs.declared.stream_fault.StreamFault.{StreamFault}
use Rattle.a429_cert.specs.declared.stream_fault.StreamFault.TheVariants as stream
use Rattle.a429_word.specs.declared.trouble.Trouble.{Trouble}
use Rattle.a429_word.specs.declared.trouble.Trouble.TheVariants as trouble
use Rattle.a429_cert.specs.declared.at.At.{At}
use Rattle.a429_cert.specs.declared.listed.Listed.{Listed}
use Rattle.a429_cert.specs.declared.replay.Replay.{Replay}
use Rattle.a429_cert.specs.declared.line.CertLine.{CertLine}
use Rattle.a429_cert.specs.declared.shelf.PutFile.{PutFile}
use Rattle.a429_link.specs.declared.file.FileBytes.{FileBytes}
use Rattle.a429_cert.specs.Explained.{items_of}
use Rattle.a429_cert.specs.Version.{read_as}
use Rattle.a429_cert.specs.Fault.{SaysLine, IsNamed, IsFaultOfLine, at_line}
use Rattle.a429_cert.specs.Change.{Change, change}
use Rattle.a429_cert.specs.Report.{Listening, Position, position, HearsListed, HearsText, report_of_listed, with_number}
use Rattle.a429_cert.specs.Passing.{uses, uses_listed, PassesListed, RefusesListed, PassesText}

-- ---- a recording that is read as a stream

-- what comes after its first n entries
abbrev pub left_after : ℕ → Recording → Recording
left_after n r = record { entries = drop n r.entries; fault = r.fault }

-- what a run records of the entry that comes next, if one does
abbrev pub next_of : Recording → Option Seen
next_of r = slice_get (items_of r.entries) 0

-- of what was to come the next entry is taken where a step uses one, and none where it uses none
abbrev pub TakesNext : ℕ → Option Recording → Option Recording → Option Seen → Type 0
TakesNext n None new next = ⊤
TakesNext zero (Some r) new next = new ≡ Some r
TakesNext (suc n) (Some r) new (Some item) = (next_of r ≡ Some item) × (new ≡ Some (left_after 1 r))
TakesNext (suc n) (Some r) new None = r ≡ whole []

-- a fault of what was to come is all of it, where a step uses an entry
abbrev pub IsFaultNext : ℕ → Option Recording → ReadFault → Type 0
IsFaultNext n None f = ⊤
IsFaultNext n (Some r) f = (n ≡ 1) × Stops f r

-- ---- how many entries a reader has handed out

-- where this is the next entry, or none is: it is handed out only to a step that uses one
abbrev pub GivesFor : ℕ → Option Entry → ℕ → ℕ → Type 0
GivesFor uses None old new = new ≡ old
GivesFor uses (Some e) old new = (uses ≡ 1) × (new ≡ old + 1)

-- at a fault: none where it is the recording's, else at most one, where one is wanted
abbrev pub GivesAtFault : Type 0 → StreamFault → ℕ → ℕ → Type 0
GivesAtFault Wants (stream.Read f) old new = new ≡ old
GivesAtFault Wants f old new = (new ≡ old) ⊎ (Wants × (new ≡ old + 1))

-- the faults of a stream by those of a certificate and of a recording, and by what has stopped a shelf or a listener: out of memory is one fault
abbrev pub of_cert : CertFault → StreamFault
of_cert of.OutOfMemory = stream.OutOfMemory
of_cert f = stream.Cert f

abbrev pub of_read : ReadFault → StreamFault
of_read read.OutOfMemory = stream.OutOfMemory
of_read f = stream.Read f

abbrev pub of_trouble : Trouble → StreamFault
of_trouble trouble.Device = stream.Device
of_trouble trouble.OutOfMemory = stream.OutOfMemory

-- ---- one line

-- a fault that says that no entry is left comes only where the recording has no fault there
abbrev pub HasEnd : Recording → CertFault → Type 0
HasEnd r (of.WordDiffers n i) = next_of r ≡ None → r.fault ≡ None
HasEnd r _ = ⊤

-- what a line lists passes over the recording, and uses so many entries
abbrev pub PassesNext : Contents → Listed → Change State → Change (Option Recording) → ℕ → Type 0
PassesNext p x state rec used = IfSome rec.old (λ r. PassesListed p x (next_of r) state used × (rec.new ≡ Some (left_after used r)))

-- line n at this position of the recording
abbrev pub line_at : Position → ℕ → Recording → At
line_at at n r = at_line n at.entry (next_of r)

-- what holds of a fault of the certificate, and what of one of the recording
abbrev pub ByFault : (CertFault → Type 0) → (ReadFault → Type 0) → StreamFault → Type 0
ByFault OfCert OfRead (stream.Cert f) = OfCert f
ByFault OfCert OfRead (stream.Read f) = OfRead f
ByFault OfCert OfRead stream.Device = ⊤
ByFault OfCert OfRead stream.OutOfMemory = ⊤

-- why what line n lists is refused: a fault of the recording comes where its entry is wanted
abbrev pub RefusesNext : Contents → Listed → Position → ℕ → StreamFault → Type 0
RefusesNext p x at n f = IfSome at.recording (λ r. ByFault
    (λ g. RefusesListed p x (line_at at n r) at.state g × HasEnd r g × (g ≢ of.OutOfMemory))
    (λ g. (uses_listed x ≡ 1) × Stops g r × (g ≢ read.OutOfMemory)) f)

-- nothing is reported to a listener where the fault is one of the certificate or of the recording
abbrev pub IsUnreported : {T : Type 0} → T → T → StreamFault → Type 0
IsUnreported old new (stream.Cert f) = new ≡ old
IsUnreported old new (stream.Read f) = new ≡ old
IsUnreported old new stream.Device = ⊤
IsUnreported old new stream.OutOfMemory = ⊤

-- a line of the text passes over the recording, and uses so many entries
abbrev pub PassesOver : Contents → Option (List ℕ) → Change State → Change (Option Recording) → ℕ → Type 0
PassesOver p text state rec used = IfSome rec.old (λ r. PassesText p text (next_of r) state used × (rec.new ≡ Some (left_after used r)))

-- a line of the text wants an entry: a step of its name may be made with some
abbrev pub WantsEntry : Contents → Option (List ℕ) → State → Type 0
WantsEntry p text s = (l : CertLine) × SaysLine text l × (uses l ≡ 1) × IsNamed p l s

-- why line n of the text is refused
abbrev pub RefusesOver : Contents → Option (List ℕ) → Position → ℕ → StreamFault → Type 0
RefusesOver p text at n f = IfSome at.recording (λ r. ByFault
    (λ g. IsFaultOfLine p at.state (line_at at n r) text g × HasEnd r g)
    (λ g. WantsEntry p text at.state × Stops g r × (g ≢ read.OutOfMemory)) f)

-- ---- a replay along the lines

-- a walk passes over what the next line lists, and that uses so many entries of the recording
abbrev pub ReplaysNext : Change Replay → Listed → Change (Option Recording) → ℕ → Type 0
ReplaysNext replay x rec used = PassesNext replay.old.link.profile x (change replay.old.link.state replay.new.link.state) rec used

-- where a replay is
abbrev pub position_of : Replay → Option Recording → Position
position_of replay rec = position replay.link.state rec replay.used

-- why a walk ends at what the last line lists
abbrev pub EndsNext : Replay → Listed → Option Recording → StreamFault → Type 0
EndsNext replay x rec f = RefusesNext replay.link.profile x (position_of replay rec) replay.lines f

-- why what the last line lists is not taken with this next entry: it is refused, or the listener has a fault
abbrev pub IsNotTaken : Replay → Listed → Option Seen → StreamFault → Type 0
IsNotTaken replay x next (stream.Cert f) = RefusesListed replay.link.profile x (at_line replay.lines replay.used next) replay.link.state f × (f ≢ of.OutOfMemory)
IsNotTaken replay x next (stream.Read f) = ⊥
IsNotTaken replay x next stream.Device = ⊤
IsNotTaken replay x next stream.OutOfMemory = ⊤

-- a walk passes over the next line, as its version reads it, and that uses so many entries of the recording
abbrev pub ReplaysLine : Change Replay → Option (List ℕ) → Change (Option Recording) → ℕ → Type 0
ReplaysLine replay text rec used = PassesOver replay.old.profile.now (read_as replay.old.version text) (change replay.old.link.state replay.new.link.state) rec used

-- why a walk ends at this line, which was handed out last
abbrev pub EndsReplay : Replay → Option (List ℕ) → Option Recording → StreamFault → Type 0
EndsReplay replay text rec f = RefusesOver replay.profile.now (read_as replay.version text) (position_of replay rec) replay.lines f

-- what the next line lists is reported to a listener, with this entry, if it uses one
abbrev pub TellsListed : {T : Type 0} → Listening T → Replay → Listed → Option Entry → Type 0
TellsListed l replay x next = l.hears replay.profile.now l.old (report_of_listed replay.link.state.source.number x (with_number replay.used next)) l.new

-- with the entry that comes next, if it uses one
abbrev pub HearsNext : {T : Type 0} → Listening T → Replay → Listed → Option Recording → Type 0
HearsNext l replay x rec = HearsListed l replay.profile.now x (position_of replay rec)

-- what this line lists, which was handed out last, is reported to a listener
abbrev pub HearsLine : {T : Type 0} → Listening T → Replay → Option (List ℕ) → Option Recording → Type 0
HearsLine l replay text rec = HearsText l replay.profile.now (read_as replay.version text) (position_of replay rec)

-- a walk hands out the files that its link has delivered: nothing else changes, but what was noted
abbrev pub HandsFilesOut : Replay → Replay → Type 0
HandsFilesOut old new = new ≡ record old { link = record (old.link) { state = handed_out old.link.state }; files = new.files }

-- one of certificate, shelf and listener has failed
abbrev pub OneFailed : Bool → Bool → Bool → Type 0
OneFailed cert shelf listener = (cert ≡ true) ⊎ (shelf ≡ true) ⊎ (listener ≡ true)

-- ---- files that are put

-- files, each at its place, from this place on
abbrev pub placed : ℕ → List FileBytes → List PutFile
placed i [] = []
placed i (f ∷ files) = record { index = i; file = f } ∷ placed (suc i) files

-- a shelf has these files after those that it had, from this place on, where its files are known
abbrev pub GainsAll : Option (List PutFile) → Option (List PutFile) → ℕ → List FileBytes → Type 0
GainsAll None new i files = ⊤
GainsAll (Some xs) None i files = ⊥
GainsAll (Some xs) (Some ys) i files = ys ≡ xs ++ placed i files

-- it has the first of these files after those that it had, and not all of them
pub record GainsFront (old new : Option (List PutFile)) (i : ℕ) (files : List FileBytes) : Type 0 where
  pub front : List FileBytes
  pub next : FileBytes
  pub more : List FileBytes
  pub first : files ≡ front ++ next ∷ more
  pub gained : GainsAll old new i front

-- these files are put on a shelf, from the place after those that were noted on
abbrev pub PutsFiles : {S : Type 0} → (S → Option (List PutFile)) → S → S → List (ℕ × ℕ) → List FileBytes → Type 0
PutsFiles shelved old new notes files = GainsAll (shelved old) (shelved new) (length notes + 1) files

-- the first of them are, and not all
abbrev pub PutsFirstFiles : {S : Type 0} → (S → Option (List PutFile)) → S → S → List (ℕ × ℕ) → List FileBytes → Type 0
PutsFirstFiles shelved old new notes files = GainsFront (shelved old) (shelved new) (length notes + 1) files

-- the number and the length of each file
abbrev pub sizes : List FileBytes → List (ℕ × ℕ)
sizes files = map (λ f. (f.number, length f.bytes)) files

-- ---- a line, and the files that its step delivers

-- a line that a replay takes, with what is still to come of the recording and what is on the shelf, before and after
pub record Taking (S : Type 0) : Type 0 where
  pub replay : Replay
  pub text : Option (List ℕ)
  pub recording : Change EntriesLeft
  pub shelf : Change S

abbrev pub taking : {S : Type 0} → Replay → Option (List ℕ) → Change EntriesLeft → Change S → Taking S
taking replay text recording shelf = record { replay = replay; text = text; recording = recording; shelf = shelf }

-- its step leads to this state, and uses so many entries
abbrev pub TakesStep : {S : Type 0} → Taking S → State → ℕ → Type 0
TakesStep t state used = PassesOver t.replay.profile.now (read_as t.replay.version t.text) (change t.replay.link.state state) (change t.recording.old.to_come t.recording.new.to_come) used

-- a walk passes over the line, which uses so many entries, and all that its step delivers is put and noted
pub record GoesOn {S : Type 0} (shelved : S → Option (List PutFile)) (t : Taking S) (new : Replay) (used : ℕ) : Type 0 where
  pub state : State
  pub passed : TakesStep t state used
  pub put : PutsFiles shelved t.shelf.old t.shelf.new t.replay.files.items state.sink.received.files
  pub noted : new.files.items ≡ t.replay.files.items ++ sizes state.sink.received.files
  pub given : new.link.state ≡ handed_out state

-- it passes over the line, and not all that its step delivers is put: the shelf has failed, or memory was refused
pub record PutsTooFew {S : Type 0} (shelved : S → Option (List PutFile)) (failed : S → Bool) (t : Taking S) (f : StreamFault) : Type 0 where
  pub state : State
  pub used : ℕ
  pub passed : TakesStep t state used
  pub given : t.recording.new.count ≡ t.recording.old.count + used
  pub put : PutsFirstFiles shelved t.shelf.old t.shelf.new t.replay.files.items state.sink.received.files
  pub fault : (f ≡ stream.Device) ⊎ (f ≡ stream.OutOfMemory)
  pub device : f ≡ stream.Device → failed t.shelf.new ≡ true

-- the line wants an entry of the recording
abbrev pub TakesEntry : {S : Type 0} → Taking S → Type 0
TakesEntry t = WantsEntry t.replay.profile.now (read_as t.replay.version t.text) t.replay.link.state

-- the line is refused, or memory is, or the listener has failed: nothing is put
pub record EndsAtLine {S : Type 0} (listener : Bool) (t : Taking S) (f : StreamFault) : Type 0 where
  pub ends : EndsReplay t.replay t.text t.recording.old.to_come f
  pub given : GivesAtFault (TakesEntry t) f t.recording.old.count t.recording.new.count
  pub put : t.shelf.new ≡ t.shelf.old
  pub device : f ≡ stream.Device → listener ≡ true

-- why a walk does not go on over the line
abbrev pub StopsAt : {S : Type 0} → (S → Option (List PutFile)) → (S → Bool) → Bool → Taking S → StreamFault → Type 0
StopsAt shelved failed listener t f = EndsAtLine listener t f ⊎ PutsTooFew shelved failed t f

-- ---- what a call that takes a line answers

-- it goes on over the line, which is one and is reported
pub record GoesOverLine {S T : Type 0} (shelved : S → Option (List PutFile)) (l : Listening T) (t : Taking S) (new : Replay) (used : ℕ) : Type 0 where
  pub goes_on : GoesOn shelved t new used
  pub heard : HearsLine l t.replay t.text t.recording.old.to_come
  pub ended : IsSome t.text
  pub few : used ≤ 1
  pub counts : t.recording.new.count ≡ t.recording.old.count + used

-- it stops there: where it says that a device has failed, one of shelf, listener and the recording's reader has
pub record StopsAtLine {S T : Type 0} (shelved : S → Option (List PutFile)) (failed : S → Bool) (broken : T → Bool) (l : Change T) (t : Taking S) (f : StreamFault) : Type 0 where
  pub stopped : StopsAt shelved failed (broken l.new) t f
  pub unreported : IsUnreported l.old l.new f
  pub device : f ≡ stream.Device → (failed t.shelf.new ≡ true) ⊎ (broken l.new ≡ true)
  pub read : f ≡ stream.Read read.Device → t.recording.new.failed ≡ true
