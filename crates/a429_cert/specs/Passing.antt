-- One line of a certificate, held against the state and the next entry.
use Rattle.std.specs.Prelude.{◌≡◌, ℕ, List, Option, Some, None, ⊤}
use Rattle.a429_profile.specs.Profile.{Contents}
use Rattle.a429_ldu.specs.Ldu.{IsLdu}
use Rattle.a429_ldu.specs.declared.fault.LduFault.{LduFault}
use Rattle.a429_ldu.specs.declared.fault.LduFault.TheVariants as unit
use Rattle.a429_link.specs.declared.seen.Seen.{Seen}
use Rattle.a429_link.specs.declared.step.Step.{Step}
use Rattle.a429_link.specs.declared.fault.StepFault.{StepFault}
use Rattle.a429_link.specs.declared.fault.StepFault.TheVariants as fault
use Rattle.a429_link.specs.Step.{Can, after}
use Rattle.a429_link.specs.State.{State}
use Rattle.a429_cert.specs.Change.{Change}
use Rattle.a429_cert.specs.declared.act.Act.{Act}
use Rattle.a429_cert.specs.declared.act.Act.TheVariants as act
use Rattle.a429_cert.specs.declared.listed.Listed.{Listed}
use Rattle.a429_cert.specs.declared.listed.Listed.TheVariants as listed
use Rattle.a429_cert.specs.declared.at.At.{At}
use Rattle.a429_cert.specs.declared.line.CertLine.{CertLine}
use Rattle.a429_cert.specs.declared.line.CertLine.TheVariants.{Load, Moved}
use Rattle.a429_cert.specs.declared.fault.CertFault.{CertFault}
use Rattle.a429_cert.specs.declared.fault.CertFault.TheVariants as of
use Rattle.a429_cert.specs.Explained.{step_of, listed_ldu, ShowsStates}
use Rattle.a429_cert.specs.Act.{step_with, uses_of}
use Rattle.a429_cert.specs.Fault.{SaysLine, IsOfAStep, IsFaultOfStep, IsFaultOfLine, UnlessMemory}

-- ---- the step of a letter

-- it may be made with this next entry
abbrev pub CanBeOf : Contents → Act → Option Seen → State → Type 0
CanBeOf p x next s = (a : Step) × (step_with x next ≡ Some a) × Can p a s

-- it may be made with some next entry
abbrev pub IsNamedOf : Contents → Act → State → Type 0
IsNamedOf p x s = (next : Option Seen) × CanBeOf p x next s

-- why it is refused
abbrev pub IsStepFault : Contents → Act → Option Seen → State → StepFault → Type 0
IsStepFault p x next s fault.NotAllowed = ¬ IsNamedOf p x s
IsStepFault p x next s fault.WordDiffers = IsNamedOf p x s × (¬ CanBeOf p x next s)
IsStepFault p x next s fault.OutOfMemory = Unit {0}

-- the step is made, and leads from a state to another
abbrev pub MakesStep : Contents → Option Step → State → State → Type 0
MakesStep p None s t = ⊥
MakesStep p (Some a) s t = Can p a s × (t ≡ after p a s)

-- ---- a line that was read

-- how many entries it uses
abbrev pub uses : CertLine → ℕ
uses (Moved l) = uses_of l.act
uses _ = 0

-- with this next entry it is a step from a state to another, which it shows, and uses so many entries
abbrev pub PassesLine : Contents → CertLine → Option Seen → Change State → ℕ → Type 0
PassesLine p l next state used = MakesStep p (step_of l next) state.old state.new × ShowsStates l state.new × (used ≡ uses l)

-- the fault of the line at this place
abbrev pub IsFaultOfRead : Contents → State → At → CertLine → CertFault → Type 0
IsFaultOfRead p s at l (of.Line m) = (m ≡ at.line) × (¬ IsOfAStep l)
IsFaultOfRead p s at l f = IsOfAStep l × IsFaultOfStep p s at l f

-- it is refused for this fault, or memory is refused
abbrev pub RefusesLine : Contents → CertLine → At → State → CertFault → Type 0
RefusesLine p l at s = UnlessMemory (IsFaultOfRead p s at l)

-- the faults of line n by those of its link data unit and of its step, where entry i is next
abbrev pub no_unit : LduFault → ℕ → CertFault
no_unit unit.OutOfMemory n = of.OutOfMemory
no_unit _ n = of.NotAllowed n

abbrev pub no_step : StepFault → ℕ → ℕ → CertFault
no_step fault.NotAllowed n i = of.NotAllowed n
no_step fault.WordDiffers n i = of.WordDiffers n i
no_step fault.OutOfMemory n i = of.OutOfMemory

-- ---- a step that a line lists, before its entry is known

-- it is this line's
abbrev pub IsStepOfLine : Listed → CertLine → Type 0
IsStepOfLine (listed.Load u) (Load l) = u ≡ listed_ldu l
IsStepOfLine (listed.Moved m) (Moved l) = m ≡ l
IsStepOfLine _ _ = ⊥

-- how many entries it uses
abbrev pub uses_listed : Listed → ℕ
uses_listed (listed.Load u) = 0
uses_listed (listed.Moved l) = uses_of l.act

-- a step of a letter that wants an entry may be made in this state, with some entry
abbrev pub IsReadyOf : Contents → Act → State → Type 0
IsReadyOf p act.Sent s = IsNamedOf p act.Sent s
IsReadyOf p act.Answered s = IsNamedOf p act.Answered s
IsReadyOf p act.FreeSeen s = IsNamedOf p act.FreeSeen s
IsReadyOf p _ s = ⊤

-- what is loaded is a link data unit of the profile, and what wants an entry may be made with some
abbrev pub IsReady : Contents → Listed → State → Type 0
IsReady p (listed.Load u) s = IsLdu p u
IsReady p (listed.Moved l) s = IsReadyOf p l.act s

-- the text lists it
abbrev pub Lists : Contents → Option (List ℕ) → Listed → State → Type 0
Lists p text x s = (l : CertLine) × SaysLine text l × IsStepOfLine x l × IsReady p x s

-- its line passes with this next entry, and uses so many entries
abbrev pub PassesListed : Contents → Listed → Option Seen → Change State → ℕ → Type 0
PassesListed p x next state used = (l : CertLine) → IsStepOfLine x l → PassesLine p l next state used

-- its line is refused for this fault, or memory is refused
abbrev pub RefusesListed : Contents → Listed → At → State → CertFault → Type 0
RefusesListed p x at s f = (l : CertLine) → IsStepOfLine x l → RefusesLine p l at s f

-- ---- a line of the text

-- it says a line that passes
abbrev pub PassesText : Contents → Option (List ℕ) → Option Seen → Change State → ℕ → Type 0
PassesText p text next state used = (l : CertLine) × SaysLine text l × PassesLine p l next state used

-- it is refused for this fault, or memory is refused
abbrev pub RefusesText : Contents → Option (List ℕ) → At → State → CertFault → Type 0
RefusesText p text at s = UnlessMemory (IsFaultOfLine p s at text)

-- line n is refused for this fault whatever the next entry is, or memory is refused
abbrev pub RefusesFirst : Contents → Option (List ℕ) → ℕ → State → CertFault → Type 0
RefusesFirst p text n s f = (at : At) → at.line ≡ n → RefusesText p text at s f
