-- The verdict on a certificate (profile).
use Rattle.std.specs.Prelude.{◌≡◌, ◌≢◌, ◌⊎◌, ℕ, List, Bool, true, false, Option, None, Result, Ok, Err, Vec}
use Rattle.std.specs.Str.{IsUtf8}
use Rattle.a429_word.specs.declared.tally.Tally.{Tally}
use Rattle.a429_word.specs.Tally.{unread}
use Rattle.a429_profile.specs.Profile.{Contents}
use Rattle.a429_profile.specs.declared.fault.ProfileFault.{ProfileFault}
use Rattle.a429_record.specs.declared.fault.ReadFault.{ReadFault}
use Rattle.a429_record.specs.declared.fault.ReadFault.TheVariants as read
use Rattle.a429_record.specs.Recording.{Recording}
use Rattle.a429_record.specs.Entries.{EntriesLeft}
use Rattle.a429_cert.specs.declared.fault.CertFault.{CertFault}
use Rattle.a429_cert.specs.declared.fault.CertFault.TheVariants as cert
use Rattle.a429_cert.specs.declared.stream_fault.StreamFault.{StreamFault}
use Rattle.a429_cert.specs.declared.stream_fault.StreamFault.TheVariants as stream
use Rattle.a429_cert.specs.Shelf.{IsUnchanged}
use Rattle.a429_cert.specs.BreakOff.{Shelved}
use Rattle.a429_cert.specs.StreamExplained.{compared, Extracts, Refuses, HearsRun, HearsBefore}
use Rattle.a429_cert.specs.Report.{Listening, TriesSome}
use Rattle.a429_view.specs.Verdict.{no_text, yes_text}
use Rattle.a429_commands.specs.declared.fault.RunFault.{RunFault}
use Rattle.a429_commands.specs.declared.fault.RunFault.TheVariants as run
use Rattle.a429_commands.specs.Ends.{Promise}
use Rattle.a429_commands.specs.Fault.{Causes, ComesBy, never}
use Rattle.a429_commands.specs.declared.engines.verdict.Judged.{Judged}
use Rattle.a429_commands.specs.Profile.{IsProfileOf, IsProfileFault, HasFault}
use Rattle.a429_cert.specs.Change.{change}

-- ---- what it means

-- what is judged: the bytes of a profile, and a certificate and a recording, where what their readers have to read is known
pub record Input : Type 0 where
  pub profile : List ℕ
  pub certificate : Option (List ℕ)
  pub recording : Option Recording

-- the same, of the readers as they were before anything was read
abbrev pub input : {C : Type 0} → List ℕ → (C → Option (List ℕ)) → Tally C → EntriesLeft → Input
input profile remaining cert rec = record { profile = profile; certificate = unread remaining cert; recording = rec.to_come }

-- no shelf
abbrev pub no_shelf : Shelved
no_shelf = record { before = None; after = None; failed = false }

-- a no: the first fault of the certificate, and status 2
pub record Rejects (i : Input) (shelf : Shelved) (status : ℕ) (text : List ℕ) : Type 0 where
  pub contents : Contents
  pub is_profile : IsProfileOf i.profile contents
  pub fault : CertFault
  pub refused : Refuses (compared contents i.certificate i.recording) (change shelf.before shelf.after) (stream.Cert fault)
  pub of_certificate : fault ≢ cert.OutOfMemory
  pub status_is : status ≡ 2
  pub text_is : text ≡ no_text fault

-- a verdict on a certificate: a yes with the files that cross, which are on the shelf, and status 0; or a no
pub data IsVerdict (i : Input) (shelf : Shelved) (status : ℕ) (text : List ℕ) : Type 0 where
  yes : (contents : Contents) (is_profile : IsProfileOf i.profile contents) (files : List (ℕ × ℕ)) (extracts : Extracts (compared contents i.certificate i.recording) (change shelf.before shelf.after) files) (status_is : status ≡ 0) (text_is : text ≡ yes_text files) → IsVerdict i shelf status text
  no : (rejects : Rejects i shelf status text) → IsVerdict i shelf status text

-- with one of the two statuses
abbrev pub IsSomeVerdict : Input → Shelved → List ℕ → Type 0
IsSomeVerdict i shelf text = (status : ℕ) × IsVerdict i shelf status text

-- ---- why there is none

-- what a certificate that is read as a stream is answered: its files, or a fault
abbrev pub Answer : Type 0
Answer = Result (List (ℕ × ℕ)) StreamFault

abbrev pub IsAnswer : Contents → Option (List ℕ) → Option Recording → Shelved → Answer → Type 0
IsAnswer p certificate rec shelf (Ok files) = Extracts (compared p certificate rec) (change shelf.before shelf.after) files
IsAnswer p certificate rec shelf (Err f) = Refuses (compared p certificate rec) (change shelf.before shelf.after) f

-- such an answer, by the profile whose text the bytes are
pub record Judges (i : Input) (shelf : Shelved) (answer : Answer) : Type 0 where
  pub contents : Contents
  pub is_profile : IsProfileOf i.profile contents
  pub is : IsAnswer contents i.certificate i.recording shelf answer

abbrev pub HasAnswer : Input → Shelved → Type 0
HasAnswer i shelf = (answer : Answer) × Judges i shelf answer

-- the fault of a command by that of a stream: a failed device and out of memory are one fault each
abbrev pub of_stream : StreamFault → RunFault
of_stream (stream.Read read.Device) = run.Device
of_stream (stream.Read read.OutOfMemory) = run.Memory
of_stream (stream.Read f) = run.Read f
of_stream stream.Device = run.Device
of_stream _ = run.Memory

-- the fault is reported as one of the recording: it is neither a failed device nor out of memory
abbrev pub IsReportedAsRead : ReadFault → Type 0
IsReportedAsRead f = of_stream (stream.Read f) ≡ run.Read f

-- the profile's own fault, and the shelf is as it was; the recording's, where its entry is wanted first; a device that has failed; out of memory, once the profile is known to be a text
abbrev pub verify_causes : Input → Shelved → Type 0 → Causes
verify_causes i shelf Failed = record never {
  profile = λ f. HasFault i.profile f × IsUnchanged shelf.before shelf.after;
  recording = λ f. IsReportedAsRead f × Judges i shelf (Err (stream.Read f));
  device = Failed × HasAnswer i shelf;
  memory = IsUtf8 i.profile × (IsUnchanged shelf.before shelf.after ⊎ HasAnswer i shelf);
}

-- why there is no verdict: the fault comes by one of these causes
abbrev pub IsVerifyFault : Input → Shelved → Type 0 → RunFault → Type 0
IsVerifyFault i shelf Failed = ComesBy (verify_causes i shelf Failed)

-- ---- a certificate that is judged, before the verdict is written

-- the files of a yes, or why it is refused, which is a verdict
abbrev pub IsAnswered : {Z : Type 0} → Contents → Input → Shelved → Result (Vec (ℕ × ℕ) Z) CertFault → Type 0
IsAnswered p i shelf (Ok files) = Extracts (compared p i.certificate i.recording) (change shelf.before shelf.after) files.items
IsAnswered p i shelf (Err f) = Refuses (compared p i.certificate i.recording) (change shelf.before shelf.after) (stream.Cert f) × (f ≢ cert.OutOfMemory)

-- the answer on a certificate is that of its stream, and nothing has failed
abbrev pub IsAnswerOf : {Z : Type 0} → Bool → Result (Vec (ℕ × ℕ) Z) StreamFault → Result (Vec (ℕ × ℕ) Z) CertFault → Type 0
IsAnswerOf failed (Ok files) answer = (failed ≡ false) × (answer ≡ Ok files)
IsAnswerOf failed (Err f) answer = (failed ≡ false) × ((fault : CertFault) × (f ≡ stream.Cert fault) × (fault ≢ cert.OutOfMemory) × (answer ≡ Err fault))

-- there is none: something has failed, or else the stream has this fault
abbrev pub IsNoAnswer : {Z : Type 0} → Bool → Result (Vec (ℕ × ℕ) Z) StreamFault → RunFault → Type 0
IsNoAnswer failed answer e = ((failed ≡ true) × (e ≡ run.Device)) ⊎ ((failed ≡ false) × ((f : StreamFault) × (answer ≡ Err f) × (e ≡ of_stream f)))

-- it is judged under the profile whose text the bytes are
abbrev pub IsJudged : Input → Shelved → Judged → Type 0
IsJudged i shelf j = IsProfileOf i.profile j.profile × IsAnswered j.profile i shelf j.answer

-- it has heard the whole run of a certificate that is accepted, and of one that is refused the steps before the fault
abbrev pub HearsAnswer : {T Z : Type 0} → Listening T → Contents → Input → Result (Vec (ℕ × ℕ) Z) CertFault → Type 0
HearsAnswer l p i (Ok files) = HearsRun l (compared p i.certificate i.recording)
HearsAnswer l p i (Err f) = HearsBefore l (compared p i.certificate i.recording) (stream.Cert f)

abbrev pub HearsJudged : {T : Type 0} → Listening T → Input → Judged → Type 0
HearsJudged l i j = HearsAnswer l j.profile i j.answer

-- at a fault of the recording it has heard the steps of the lines before it, by the profile whose text the bytes are
abbrev pub HearsUntil : {T : Type 0} → Listening T → Input → RunFault → Type 0
HearsUntil l i (run.Read f) = (p : Contents) × IsProfileOf i.profile p × HearsBefore l (compared p i.certificate i.recording) (stream.Read f)
HearsUntil l i e = Unit {0}

-- a listener was given some reports, under the profile whose text the bytes are: the fault is not one of the profile, and where it has failed, it is that of a device
pub record TriesUnder {T : Type 0} (failed : T → Bool) (l : Listening T) (profile : List ℕ) (e : RunFault) : Type 0 where
  pub contents : Contents
  pub is_profile : IsProfileOf profile contents
  pub tried : TriesSome l contents
  pub no_profile : (f : ProfileFault) → e ≢ run.Profile f
  pub device : failed l.new ≡ true → e ≡ run.Device

-- so at a fault, or it is as it was, where the profile could not be read
abbrev pub TriesUntil : {T : Type 0} → (T → Bool) → Listening T → List ℕ → RunFault → Type 0
TriesUntil failed l profile e = (IsProfileFault profile e × (l.new ≡ l.old)) ⊎ TriesUnder failed l profile e

-- the text and the status of what was judged
abbrev pub status_of_answer : {Z : Type 0} → Result (Vec (ℕ × ℕ) Z) CertFault → ℕ
status_of_answer (Ok files) = 0
status_of_answer (Err f) = 2

abbrev pub text_of_answer : {Z : Type 0} → Result (Vec (ℕ × ℕ) Z) CertFault → List ℕ
text_of_answer (Ok files) = yes_text files.items
text_of_answer (Err f) = no_text f

-- with its status, its text
abbrev pub SaysAnswer : {Z : Type 0} → Result (Vec (ℕ × ℕ) Z) CertFault → ℕ → List ℕ → Type 0
SaysAnswer answer status text = (status ≡ status_of_answer answer) × (text ≡ text_of_answer answer)

-- a command writes the verdict, where no reader and not the shelf has failed; else it writes nothing
abbrev pub of_verdict : Input → Shelved → Type 0 → Promise
of_verdict i shelf Failed = record {
  says = λ status text. IsVerdict i shelf status text × (Failed → ⊥);
  stops = λ e text. ⊥;
  begins = λ text. IsSomeVerdict i shelf text × (Failed → ⊥);
  refuses = IsVerifyFault i shelf Failed;
}
