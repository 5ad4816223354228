-- How the verdict on a certificate is answered (profile).
use Rattle.std.specs.Prelude.{◌≡◌, ℕ, List}
use Rattle.a429_profile.specs.Profile.{Contents}
use Rattle.a429_record.specs.declared.entry.Entry.{Entry}
use Rattle.a429_record.specs.Recording.{stands_for, whole}
use Rattle.a429_link.specs.declared.file.FileBytes.{FileBytes}
use Rattle.a429_cert.specs.Explained.{items_of, IsExplained, AreDeliveredInEveryRun, IncludeSettledOfEveryRun}
use Rattle.a429_cert.specs.declared.fault.CertFault.{CertFault}
use Rattle.a429_cert.specs.declared.fault.CertFault.TheVariants.{Version, Line, NotAllowed, StateDiffers, WordDiffers, Unfinished, OutOfMemory}
use Rattle.a429_cert.specs.Fault.{IsFirstCertFault}
use Rattle.a429_c.specs.declared.found.Found.{Found}
use Rattle.a429_c.specs.declared.refusal.Held.{Held}
use Rattle.a429_c.specs.declared.refusal.Held.TheVariants.{Explained, Refused}
use Rattle.a429_c.specs.Input.{IsProfileOf}
use Rattle.a429_c.specs.Buffers.{Left, LeavesFiles}

-- the certificate explains the recording that these bytes are, under a profile that was read, and these are the files that every run delivers
pub record ExplainsUnder (p : Contents) (recording certificate : List ℕ) (files : List FileBytes) : Type 0 where
  pub entries : List Entry
  pub is_recording : stands_for recording ≡ whole entries
  pub explained : IsExplained p certificate (items_of entries) files
  pub every_run : AreDeliveredInEveryRun p (items_of entries) files
  pub settled : IncludeSettledOfEveryRun p (items_of entries) files

-- this is the first fault of the certificate
pub record IsRefusedUnder (p : Contents) (recording certificate : List ℕ) (f : CertFault) : Type 0 where
  pub entries : List Entry
  pub is_recording : stands_for recording ≡ whole entries
  pub is_fault : IsFirstCertFault p certificate (items_of entries) f

-- ---- its numbers

abbrev pub number_of_fault : CertFault → ℕ
number_of_fault Version = 21
number_of_fault (Line n) = 22
number_of_fault (NotAllowed n) = 23
number_of_fault (StateDiffers n) = 24
number_of_fault (WordDiffers n i) = 25
number_of_fault (Unfinished i) = 26
number_of_fault OutOfMemory = 0

-- the line that it names; 0 where it names none
abbrev pub line_of : CertFault → ℕ
line_of Version = 0
line_of (Line n) = n
line_of (NotAllowed n) = n
line_of (StateDiffers n) = n
line_of (WordDiffers n i) = n
line_of (Unfinished i) = 0
line_of OutOfMemory = 0

-- the entry that it names; 0 where it names none
abbrev pub entry_of : CertFault → ℕ
entry_of Version = 0
entry_of (Line n) = 0
entry_of (NotAllowed n) = 0
entry_of (StateDiffers n) = 0
entry_of (WordDiffers n i) = i
entry_of (Unfinished i) = i
entry_of OutOfMemory = 0

-- ---- how it is answered

-- what was left reports a yes with these files
pub record ReportsFiles (files : List FileBytes) (left : Left) : Type 0 where
  pub entry : left.found.entry ≡ 0
  pub line : left.found.line ≡ 0
  pub reason : left.found.reason ≡ 0
  pub text : left.found.text ≡ 0
  pub crossed : LeavesFiles left files

-- the numbers report this fault
abbrev pub ReportsFault : CertFault → Found → Type 0
ReportsFault f found = found ≡ record { entry = entry_of f; line = line_of f; files = 0; bytes = 0; text = 0; reason = number_of_fault f }

-- what is found of the certificate, under a profile that was read
abbrev pub FindsUnder : Contents → List ℕ → List ℕ → Held → Type 0
FindsUnder p recording certificate (Explained files) = ExplainsUnder p recording certificate files
FindsUnder p recording certificate (Refused f) = IsRefusedUnder p recording certificate f

-- by the profile that these bytes are the text of
abbrev pub Finds : List ℕ → List ℕ → List ℕ → Held → Type 0
Finds profile recording certificate h = (p : Contents) × IsProfileOf profile p × FindsUnder p recording certificate h

-- the status and what was left report it
abbrev pub ReportsHeld : Held → ℕ → Left → Type 0
ReportsHeld (Explained files) status left = (status ≡ 0) × ReportsFiles files left
ReportsHeld (Refused f) status left = (status ≡ 2) × ReportsFault f left.found
