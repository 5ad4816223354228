-- What `a429 units` writes (profile).
use Rattle.std.specs.Prelude.{◌≡◌, ◌≢◌, ◌⊎◌, ◌≤◌, ◌++◌, ℕ, List, [], length, take, Option, None, Result, Ok, Err, Vec}
use Rattle.a429_word.specs.Tally.{Puts, AppendsPrefix, inner_of}
use Rattle.a429_word.specs.Page.{PutsOn}
use Rattle.a429_profile.specs.Profile.{Contents}
use Rattle.a429_link.specs.declared.step.Step.{Step}
use Rattle.a429_record.specs.Recording.{Recording}
use Rattle.a429_record.specs.declared.fault.ReadFault.{ReadFault}
use Rattle.a429_cert.specs.declared.fault.CertFault.{CertFault}
use Rattle.a429_cert.specs.declared.fault.CertFault.TheVariants as cert
use Rattle.a429_cert.specs.declared.stream_fault.StreamFault.{StreamFault}
use Rattle.a429_cert.specs.declared.stream_fault.StreamFault.TheVariants as stream
use Rattle.a429_cert.specs.Explained.{items_of, Explains}
use Rattle.a429_cert.specs.StreamExplained.{compared, Extracts, Refuses, AreReportedBefore, WhereBothKnown}
use Rattle.a429_cert.specs.Report.{Report, reports_of_run}
use Rattle.a429_view.specs.declared.units.rows.UnitRows.{UnitRows}
use Rattle.a429_view.specs.Units.{units_text, ended_text}
use Rattle.a429_view.specs.UnitSteps.{line_before, AreRowLines, PutsAll}
use Rattle.a429_commands.specs.declared.fault.RunFault.{RunFault}
use Rattle.a429_commands.specs.declared.fault.RunFault.TheVariants as run
use Rattle.a429_commands.specs.Ends.{Promise}
use Rattle.a429_commands.specs.Profile.{IsProfileFault, IsProfileOf}
use Rattle.a429_commands.specs.Verdict.{HasAnswer, Input, IsVerifyFault, no_shelf}
use Rattle.a429_view.specs.Verdict.{no_text}
use Rattle.a429_cert.specs.Change.{change}

-- no row is begun, and none waits
abbrev pub AreFresh : {W : Type 0} → UnitRows W → Type 0
AreFresh rows = (rows.page ≡ []) × (rows.row ≡ None)

-- ---- the text

-- the rows of the units of a run by which the certificate explains the recorded words
pub record AreUnitsOfRun (p : Contents) (rows : List ℕ) (text : List ℕ) (r : Recording) : Type 0 where
  pub first : ℕ
  pub steps : List Step
  pub explains : Explains p text (items_of r.entries) first steps
  pub are : rows ≡ units_text p.codes (reports_of_run p r.entries first steps)

-- the rows of the units that ended in the lines before a fault
pub record AreEndedBefore (p : Contents) (f : StreamFault) (rows : List ℕ) (text : List ℕ) (r : Recording) : Type 0 where
  pub reports : List Report
  pub before : AreReportedBefore p f reports text r
  pub are : rows ≡ ended_text p.codes reports

-- a yes, reported by such rows
pub record ListsUnits (i : Input) (text : List ℕ) : Type 0 where
  pub contents : Contents
  pub is_profile : IsProfileOf i.profile contents
  pub files : List (ℕ × ℕ)
  pub yes : Extracts (compared contents i.certificate i.recording) (change None None) files
  pub rows : WhereBothKnown i.certificate i.recording (AreUnitsOfRun contents text)

-- a no: its line comes last, after the rows of units that had ended before, and nothing else
pub record RefusesUnits (i : Input) (text : List ℕ) : Type 0 where
  pub contents : Contents
  pub is_profile : IsProfileOf i.profile contents
  pub fault : CertFault
  pub refused : Refuses (compared contents i.certificate i.recording) (change None None) (stream.Cert fault)
  pub of_certificate : fault ≢ cert.OutOfMemory
  pub rows : List ℕ
  pub ended : WhereBothKnown i.certificate i.recording (AreEndedBefore contents (stream.Cert fault) rows)
  pub is : text ≡ rows ++ no_text fault

-- a verdict: 0 and the rows, or 2 and a no
abbrev pub ReportsUnits : Input → ℕ → List ℕ → Type 0
ReportsUnits i status text = ((status ≡ 0) × ListsUnits i text) ⊎ ((status ≡ 2) × RefusesUnits i text)

-- the first bytes of a text
abbrev pub IsFrontOf : List ℕ → List ℕ → Type 0
IsFrontOf text all = (n : ℕ) × (n ≤ length all) × (text ≡ take n all)

-- what was written before a fault: of one of the recording, the first bytes of the rows of units that ended in the lines before it; of another, of some rows
abbrev pub IsLeft : Input → RunFault → List ℕ → Type 0
IsLeft i (run.Read f) text = (p : Contents) × IsProfileOf i.profile p × WhereBothKnown i.certificate i.recording (λ t r. (rows : List ℕ) × AreEndedBefore p (stream.Read f) rows t r × IsFrontOf text rows)
IsLeft i e text = (rows : List ℕ) × AreRowLines rows × IsFrontOf text rows

-- some rows, and the line of a no after them, if one is
abbrev pub BeginsUnits : List ℕ → Type 0
BeginsUnits text = AreRowLines text ⊎ ((rows : List ℕ) × (f : CertFault) × AreRowLines rows × (text ≡ rows ++ no_text f))

-- `units` writes rows while it reads; a fault of the profile comes before any. Where the output fails, the certificate was answered
abbrev pub of_units : Input → Type 0 → Promise
of_units i Failed = record {
  says = λ status text. ReportsUnits i status text × (Failed → ⊥);
  stops = λ e text. IsLeft i e text × IsVerifyFault i no_shelf Failed e;
  begins = λ text. BeginsUnits text × HasAnswer i no_shelf;
  refuses = IsProfileFault i.profile;
}

-- ---- the rows and their page

-- the rows are ended by the answer: the last row is put, and 0; or those that wait are, then the line of the no, and 2
abbrev pub EndsUnits : {W Z : Type 0} → (W → Option (List ℕ)) → UnitRows W → UnitRows W → Result (Vec (ℕ × ℕ) Z) CertFault → ℕ → Type 0
EndsUnits contents old new (Ok files) status = (status ≡ 0) × PutsAll contents old new (line_before old.row)
EndsUnits {W} contents old new (Err f) status = (status ≡ 2) × ((waited : UnitRows W) × PutsAll contents old waited [] × Puts contents waited.out new.out (no_text f))

-- what ends them
abbrev pub last_text : {W Z : Type 0} → UnitRows W → Result (Vec (ℕ × ℕ) Z) CertFault → List ℕ
last_text rows (Ok files) = line_before rows.row
last_text rows (Err f) = no_text f

-- at most a prefix of what waits and of that has gone out
abbrev pub EndsInPart : {W Z : Type 0} → (W → Option (List ℕ)) → UnitRows W → UnitRows W → Result (Vec (ℕ × ℕ) Z) CertFault → Type 0
EndsInPart contents old new answer = AppendsPrefix (contents (inner_of old.out)) (contents (inner_of new.out)) (old.page ++ last_text old answer)

-- an output and its page have gained the rows of the units that ended in the lines before a fault of the recording, and nothing else
pub record HaveEnded {W : Type 0} (contents : W → Option (List ℕ)) (old new : UnitRows W) (p : Contents) (f : ReadFault) (text : List ℕ) (r : Recording) : Type 0 where
  pub reports : List Report
  pub before : AreReportedBefore p (stream.Read f) reports text r
  pub puts : PutsOn contents old.out old.page new.out new.page (ended_text p.codes reports)

-- what is left after a fault: of one of the profile, what was; of one of the recording, such rows; of another nothing is said
abbrev pub LeavesUnits : {W : Type 0} → (W → Option (List ℕ)) → UnitRows W → UnitRows W → Input → RunFault → Type 0
LeavesUnits contents old new i (run.Profile f) = new ≡ old
LeavesUnits contents old new i (run.Read f) = (p : Contents) × IsProfileOf i.profile p × WhereBothKnown i.certificate i.recording (HaveEnded contents old new p f)
LeavesUnits contents old new i e = Unit {0}
