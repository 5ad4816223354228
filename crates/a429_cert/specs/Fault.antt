-- The first fault of a certificate that does not explain a recording (profile).
use Rattle.std.specs.Prelude.{◌≡◌, ◌≢◌, ◌⊎◌, ◌+◌, ◌≤◌, ℕ, List, length, take, drop, Option, Some, None, slice_get}
use Rattle.a429_profile.specs.Profile.{Contents}
use Rattle.a429_link.specs.declared.seen.Seen.{Seen}
use Rattle.a429_link.specs.declared.step.Step.{Step}
use Rattle.a429_link.specs.Step.{Can, after}
use Rattle.a429_link.specs.State.{State}
use Rattle.a429_cert.specs.declared.at.At.{At}
use Rattle.a429_cert.specs.declared.line.CertLine.{CertLine}
use Rattle.a429_cert.specs.declared.line.CertLine.TheVariants.{First, Load, Moved}
use Rattle.a429_cert.specs.declared.fault.CertFault.{CertFault}
use Rattle.a429_cert.specs.declared.fault.CertFault.TheVariants as of
use Rattle.a429_cert.specs.declared.fault.CertFault.TheVariants.{Line, NotAllowed, StateDiffers, WordDiffers, Unfinished, OutOfMemory}
use Rattle.a429_cert.specs.Line.{spelling, SpellsLine}
use Rattle.a429_cert.specs.declared.version.Version.{Version}
use Rattle.a429_cert.specs.declared.explained.Head.{Head}
use Rattle.a429_cert.specs.Lines.{certificate_lines}
use Rattle.a429_cert.specs.Version.{version_line, step_lines}
use Rattle.a429_cert.specs.Explained.{step_of, ShowsStates, Reaches}

-- ---- the first two lines

-- the first line names this version
abbrev pub HasVersion : List ℕ → Version → Type 0
HasVersion certificate v = slice_get (certificate_lines certificate) 0 ≡ Some (Some (version_line v))

-- it names some version
abbrev pub IsVersioned : List ℕ → Type 0
IsVersioned certificate = (v : Version) × HasVersion certificate v

-- the second line has the number of the first file
abbrev pub HasFirst : List ℕ → ℕ → Type 0
HasFirst certificate first = (first ≤ 255) × (slice_get (certificate_lines certificate) 1 ≡ Some (Some (spelling (First first))))

-- they say this
abbrev pub HasHead : List ℕ → Head → Type 0
HasHead certificate h = HasVersion certificate h.version × HasFirst certificate h.first

-- the text begins with them, they say this, and this comes after them
pub record Begins (text : List ℕ) (head : Head) (left_after : List ℕ) : Type 0 where
  pub says : HasHead text head
  pub lines : certificate_lines left_after ≡ drop 2 (certificate_lines text)
  pub shorter : length left_after + 2 ≤ length text

-- the number of the first file, where the line has it
abbrev pub file_in : CertLine → Option ℕ
file_in (First file) = Some file
file_in _ = None

-- why they are refused
abbrev pub IsFaultOfHead : List ℕ → CertFault → Type 0
IsFaultOfHead text of.Version = ¬ IsVersioned text
IsFaultOfHead text (Line n) = (n ≡ 2) × IsVersioned text × ((first : ℕ) → ¬ HasFirst text first)
IsFaultOfHead text _ = ⊥

-- the second line has no number, and that is the fault
abbrev pub IsNoFirst : Option (Option (List ℕ)) → CertFault → Type 0
IsNoFirst line f = (f ≡ Line 2) × ((first : ℕ) → first ≤ 255 → line ≢ Some (Some (spelling (First first))))

-- ---- the others

-- a line of the text says this: it ends, and spells it
abbrev pub SaysLine : Option (List ℕ) → CertLine → Type 0
SaysLine (Some text) l = SpellsLine text l
SaysLine None l = ⊥

-- the line of the first file number comes at the second place alone
abbrev pub IsOfAStep : CertLine → Type 0
IsOfAStep (First file) = ⊥
IsOfAStep (Load l) = Unit {0}
IsOfAStep (Moved l) = Unit {0}

-- the step of the line may be made in this state, where this is the next entry, or none is left
abbrev pub CanBe : Contents → CertLine → Option Seen → State → Type 0
CanBe p l next s = (a : Step) × (step_of l next ≡ Some a) × Can p a s

-- a step of the line's name may be made in this state, with some next entry
abbrev pub IsNamed : Contents → CertLine → State → Type 0
IsNamed p l s = (next : Option Seen) × CanBe p l next s

-- line n, where entry i is next, if one is left
abbrev pub at_line : ℕ → ℕ → Option Seen → At
at_line n i next = record { line = n; entry = i; next = next }

-- the fault of the line at this place, which says l, in the state that the lines before it lead to
abbrev pub IsFaultOfStep : Contents → State → At → CertLine → CertFault → Type 0
-- no step of its name may be made, whatever the next entry is
IsFaultOfStep p s at l (NotAllowed m) = (m ≡ at.line) × (¬ IsNamed p l s)
-- a step of its name may be made, but not with this next entry
IsFaultOfStep p s at l (WordDiffers m j) = (m ≡ at.line) × (j ≡ at.entry) × IsNamed p l s × (¬ CanBe p l at.next s)
-- its step may be made, and it writes another state than the one after it
IsFaultOfStep p s at l (StateDiffers m) = (m ≡ at.line) × (a : Step) × (step_of l at.next ≡ Some a) × Can p a s × (¬ ShowsStates l (after p a s))
IsFaultOfStep p s at l _ = ⊥

-- the fault of the line at this place, whatever it says
abbrev pub IsFaultOfLine : Contents → State → At → Option (List ℕ) → CertFault → Type 0
-- it says no step
IsFaultOfLine p s at line (Line m) = (m ≡ at.line) × ((l : CertLine) → IsOfAStep l → ¬ SaysLine line l)
IsFaultOfLine p s at line f = (l : CertLine) × SaysLine line l × IsOfAStep l × IsFaultOfStep p s at l f

-- past the last line the fault is the next entry, which is left
abbrev pub IsLeft : Option Seen → ℕ → CertFault → Type 0
IsLeft (Some item) i (Unfinished j) = j ≡ i
IsLeft _ i _ = ⊥

-- the fault at a place: of the line there, or past the last line
abbrev pub IsFaultAt : Contents → State → At → Option (Option (List ℕ)) → CertFault → Type 0
IsFaultAt p s at (Some line) f = IsFaultOfLine p s at line f
IsFaultAt p s at None f = IsLeft at.next at.entry f

-- after the first two lines, k lines are the steps of a run over the first i entries, and the fault comes next
pub record IsLaterFault (p : Contents) (certificate : List ℕ) (items : List Seen) (f : CertFault) : Type 0 where
  pub head : Head
  pub says : HasHead certificate head
  pub k : ℕ
  pub i : ℕ
  pub inside : i ≤ length items
  pub state : State
  pub before : Reaches p head.first (take k (step_lines head.version certificate)) (take i items) state
  pub fault : IsFaultAt p state (at_line (k + 3) i (slice_get items i)) (slice_get (step_lines head.version certificate) k) f

-- the first fault in the order of the lines
abbrev pub IsFirstCertFault : Contents → List ℕ → List Seen → CertFault → Type 0
IsFirstCertFault p certificate items of.Version = IsFaultOfHead certificate of.Version
IsFirstCertFault p certificate items OutOfMemory = ⊥
IsFirstCertFault p certificate items f = IsFaultOfHead certificate f ⊎ (IsVersioned certificate × IsLaterFault p certificate items f)

-- what holds of a fault, where it is not out of memory
abbrev pub UnlessMemory : (CertFault → Type 0) → CertFault → Type 0
UnlessMemory Holds f = f ≢ OutOfMemory → Holds f
