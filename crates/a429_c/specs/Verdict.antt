-- How a verdict of `decide` is answered (profile).
use Rattle.std.specs.Prelude.{◌≡◌, ℕ, List, [], Option}
use Rattle.a429_profile.specs.Profile.{Contents}
use Rattle.a429_record.specs.declared.entry.Entry.{Entry}
use Rattle.a429_record.specs.Recording.{stands_for, whole}
use Rattle.a429_link.specs.declared.seen.Seen.{Seen}
use Rattle.a429_link.specs.declared.file.FileBytes.{FileBytes}
use Rattle.a429_cert.specs.Explained.{items_of}
use Rattle.a429_explain.specs.declared.verdict.Verdict.{Verdict}
use Rattle.a429_explain.specs.declared.verdict.Verdict.TheVariants.{Explained, Impossible, Unexplained}
use Rattle.a429_explain.specs.declared.verdict.Reason.{Reason}
use Rattle.a429_explain.specs.declared.verdict.Reason.TheVariants.{NoForm, NotGranted, WrongAnswer, BadBlock, WrongNumber, OtherBlock, NoRun}
use Rattle.a429_explain.specs.declared.verdict.Doubt.{Doubt}
use Rattle.a429_explain.specs.declared.verdict.Doubt.TheVariants.{NeverWhole, NotOneBlock, NotReplayed, OutOfSteps}
use Rattle.a429_explain.specs.Verdict.{IsSoundVerdict, IsAccepted, IsOfLeastVersion, IsDoubted}
use Rattle.a429_merge.specs.declared.budget.Cut.{Cut}
use Rattle.a429_search.specs.Deciding.{IsExact, IsImpossibleBy, IsOfCheck}
use Rattle.a429_c.specs.Input.{IsProfileOf}
use Rattle.a429_c.specs.Buffers.{Holds, Left, LeavesFiles}

-- ---- which verdict

-- what `decide` says of its verdict on recorded words; the limit by which its search was cut short, if it was, is not answered, and so not
-- whether an entry is the first
pub record IsDecided (p : Contents) (items : List Seen) (v : Verdict) : Type 0 where
  pub sound : IsSoundVerdict p items v
  pub accepted : IsAccepted p items v
  pub version : IsOfLeastVersion p items v
  pub impossible : IsImpossibleBy p items v
  pub doubted : IsDoubted p items v
  pub of_check : IsOfCheck p items v
  pub cut : Option Cut
  pub exact : IsExact p items cut v

-- it is one on the recording that these bytes are, under a profile that was read
abbrev pub IsVerdictUnder : Contents → List ℕ → Verdict → Type 0
IsVerdictUnder p recording v = (es : List Entry) × (stands_for recording ≡ whole es) × IsDecided p (items_of es) v

-- it is one on it by the profile that these bytes are the text of
abbrev pub IsVerdictOn : List ℕ → List ℕ → Verdict → Type 0
IsVerdictOn profile recording v = (p : Contents) × IsProfileOf profile p × IsVerdictUnder p recording v

-- ---- its numbers

abbrev pub status_of : Verdict → ℕ
status_of (Explained certificate files) = 0
status_of (Impossible i reason) = 1
status_of (Unexplained i doubt) = 2

abbrev pub number_of_reason : Reason → ℕ
number_of_reason NoForm = 1
number_of_reason NotGranted = 2
number_of_reason WrongAnswer = 3
number_of_reason BadBlock = 4
number_of_reason WrongNumber = 5
number_of_reason OtherBlock = 6
number_of_reason NoRun = 7

abbrev pub number_of_doubt : Doubt → ℕ
number_of_doubt NeverWhole = 11
number_of_doubt NotOneBlock = 12
number_of_doubt NotReplayed = 13
number_of_doubt OutOfSteps = 14

abbrev pub reason_of : Verdict → ℕ
reason_of (Explained certificate files) = 0
reason_of (Impossible i reason) = number_of_reason reason
reason_of (Unexplained i doubt) = number_of_doubt doubt

-- the entry that it names; 0 where it names none
abbrev pub entry_of : Verdict → ℕ
entry_of (Explained certificate files) = 0
entry_of (Impossible i reason) = i
entry_of (Unexplained i doubt) = i

-- ---- its files and its certificate

abbrev pub files_of : Verdict → List FileBytes
files_of (Explained certificate files) = files
files_of (Impossible i reason) = []
files_of (Unexplained i doubt) = []

abbrev pub certificate_of : Verdict → List ℕ
certificate_of (Explained certificate files) = certificate
certificate_of (Impossible i reason) = []
certificate_of (Unexplained i doubt) = []

-- the status and what was left report it
pub record Reports (v : Verdict) (status : ℕ) (left : Left) : Type 0 where
  pub status_is : status ≡ status_of v
  pub entry : left.found.entry ≡ entry_of v
  pub line : left.found.line ≡ 0
  pub reason : left.found.reason ≡ reason_of v
  pub files : LeavesFiles left (files_of v)
  pub certificate : Holds left.text left.found.text (certificate_of v)
