-- What a certificate explains (profile).
use Rattle.std.specs.Prelude.{◌≡◌, ◌≤◌, ℕ, List, [], ◌∷◌, map, Option, Some, None}
use Rattle.a429_profile.specs.Profile.{Contents}
use Rattle.a429_ldu.specs.Ldu.{LduValue}
use Rattle.a429_link.specs.declared.seen.Seen.{Seen}
use Rattle.a429_link.specs.declared.step.Step.{Step}
use Rattle.a429_link.specs.declared.step.Step.TheVariants as step
use Rattle.a429_link.specs.Step.{Can, after}
use Rattle.a429_link.specs.State.{start, State, states_of}
use Rattle.a429_link.specs.declared.file.FileBytes.{FileBytes}
use Rattle.a429_link.specs.Run.{IsRun, IsSubsequenceOf, end_of, trace, delivered, offered, settled}
use Rattle.a429_record.specs.declared.entry.Entry.{Entry}
use Rattle.a429_cert.specs.declared.line.LoadLine.{LoadLine}
use Rattle.a429_cert.specs.declared.line.CertLine.{CertLine}
use Rattle.a429_cert.specs.declared.line.CertLine.TheVariants.{First, Load, Moved}
use Rattle.a429_cert.specs.Act.{step_with}
use Rattle.a429_cert.specs.Line.{spelling, SpellsLine}
use Rattle.a429_cert.specs.Lines.{certificate_lines}
use Rattle.a429_cert.specs.declared.version.Version.{Version}
use Rattle.a429_cert.specs.Version.{version_line, read_as}

-- what a run records of an entry: its time is not looked at
abbrev pub seen_of : Entry → Seen
seen_of e = record { bus = e.bus; word = e.word }

abbrev pub items_of : List Entry → List Seen
items_of entries = map seen_of entries

-- ---- the step of a line

-- the link data unit of a line
abbrev pub listed_ldu : LoadLine → LduValue
listed_ldu l = record { gfi = l.gfi; flags = l.flags; check = l.check; words = l.words }

-- the step of a line; the line of the first file number has none
abbrev pub step_of : CertLine → Option Seen → Option Step
step_of (First file) next = None
step_of (Load l) next = Some (step.Load (listed_ldu l))
step_of (Moved l) next = step_with l.act next

-- a line of a step writes the phases after it, and how many words are on their way
abbrev pub ShowsStates : CertLine → State → Type 0
ShowsStates (First file) s = Unit {0}
ShowsStates (Load l) s = Unit {0}
ShowsStates (Moved l) s = states_of s ≡ l.states

-- ---- what lines list

-- the text is a line of this step, which may be made in this state
pub record ListsStep (p : Contents) (text : List ℕ) (a : Step) (s : State) : Type 0 where
  pub line : CertLine
  pub spelled : SpellsLine text line
  pub next : Option Seen
  pub step : step_of line next ≡ Some a
  pub can : Can p a s
  pub shows : ShowsStates line (after p a s)

-- the lines are these steps, one each, in order, from a state on
abbrev pub ListsSteps : Contents → List (Option (List ℕ)) → List Step → State → Type 0
ListsSteps p [] [] s = Unit {0}
ListsSteps p (Some text ∷ lines) (a ∷ steps) s = ListsStep p text a s × ListsSteps p lines steps (after p a s)
ListsSteps p _ _ s = ⊥

-- lines and entries are those of steps that lead from one state to another
pub record Leads (p : Contents) (from : State) (lines : List (Option (List ℕ))) (items : List Seen) (s : State) : Type 0 where
  pub steps : List Step
  pub lists : ListsSteps p lines steps from
  pub used : trace steps ≡ items
  pub ends : s ≡ end_of p steps from

-- of a run that goes from the start to this state
abbrev pub Reaches : Contents → ℕ → List (Option (List ℕ)) → List Seen → State → Type 0
Reaches p first lines items s = Leads p (start p first) lines items s

-- the certificate explains the recorded words by this run: its first two lines are the version and the
-- number of the first file, its others, as that version reads them, are the run's steps, and the run records
-- these words and no others
pub record Explains (p : Contents) (certificate : List ℕ) (items : List Seen) (first : ℕ) (steps : List Step) : Type 0 where
  pub version : Version
  pub lines : List (Option (List ℕ))
  pub byte : first ≤ 255
  pub header : certificate_lines certificate ≡ Some (version_line version) ∷ Some (spelling (First first)) ∷ lines
  pub lists : ListsSteps p (map (read_as version) lines) steps (start p first)
  pub used : trace steps ≡ items

-- the recorded words that the certificate explains, and the run by which it does
pub record Explanation (p : Contents) (certificate : List ℕ) : Type 0 where
  pub items : List Seen
  pub first : ℕ
  pub steps : List Step
  pub explains : Explains p certificate items first steps

-- ---- what a yes says

-- the certificate explains the recorded words by a run that delivers these files
pub record IsExplained (p : Contents) (certificate : List ℕ) (items : List Seen) (files : List FileBytes) : Type 0 where
  pub first : ℕ
  pub steps : List Step
  pub explains : Explains p certificate items first steps
  pub delivers : files ≡ delivered p first steps

-- some run records these words and no others, and delivers these files
pub record AreInSomeRun (p : Contents) (items : List Seen) (files : List FileBytes) : Type 0 where
  pub first : ℕ
  pub byte : first ≤ 255
  pub steps : List Step
  pub run : IsRun p steps (start p first)
  pub recorded : trace steps ≡ items
  pub gives : files ≡ delivered p first steps

-- in each run that records these words and no others, whatever it loses out of sight, these files are
-- delivered, and they are some of those that its source offered, in their order
abbrev pub AreDeliveredInEveryRun : Contents → List Seen → List FileBytes → Type 0
AreDeliveredInEveryRun p items files = (first : ℕ) (steps : List Step) → first ≤ 255 → IsRun p steps (start p first) → trace steps ≡ items → (files ≡ delivered p first steps) × IsSubsequenceOf files (offered p first steps)

-- in each such run those that its source takes as acknowledged are some of these files, in their order
abbrev pub IncludeSettledOfEveryRun : Contents → List Seen → List FileBytes → Type 0
IncludeSettledOfEveryRun p items files = (first : ℕ) (steps : List Step) → first ≤ 255 → IsRun p steps (start p first) → trace steps ≡ items → IsSubsequenceOf (settled p first steps) files

-- both
pub record AreInEveryRun (p : Contents) (items : List Seen) (files : List FileBytes) : Type 0 where
  pub delivered : AreDeliveredInEveryRun p items files
  pub settled : IncludeSettledOfEveryRun p items files
