-- How a step is made or refused, a fault known from the step's name without a search for a word. For a link's states it is
-- proved that this fault is the same.
use Rattle.std.specs.Prelude.{◌≡◌, IsSome, Result, Ok, Err}
use Rattle.a429_profile.specs.Profile.{Contents}
use Rattle.a429_link.specs.declared.step.Step.{Step}
use Rattle.a429_link.specs.declared.step.Step.TheVariants.{Sent, Answered, FreeSeen}
use Rattle.a429_link.specs.declared.fault.StepFault.{StepFault}
use Rattle.a429_link.specs.declared.fault.StepFault.TheVariants as fault
use Rattle.a429_link.specs.Sink.{Owes}
use Rattle.a429_link.specs.Step.{Can, Grows, after}
use Rattle.a429_link.specs.Source.{next_word_of}
use Rattle.a429_link.specs.State.{State}
use Rattle.a429_link.specs.Run.{IsBounded}

-- a step of this name may be made
abbrev pub IsReadyStep : Contents → Step → State → Type 0
IsReadyStep p (Sent i) s = IsSome (next_word_of p s.source)
IsReadyStep p (Answered i) s = Owes s.sink.phase
IsReadyStep p (FreeSeen i) s = Unit {0}
IsReadyStep p a s = Can p a s

abbrev pub IsFaultByName : Contents → Step → State → StepFault → Type 0
IsFaultByName p a s fault.NotAllowed = ¬ IsReadyStep p a s
IsFaultByName p a s fault.WordDiffers = IsReadyStep p a s × (¬ Can p a s)
IsFaultByName p a s fault.OutOfMemory = Can p a s × Grows p a

-- the step is made where it may be, and leads where it leads; or it is refused for this reason, and nothing changes
abbrev pub Applies : {T : Type 0} → Contents → Step → State → State → Result T StepFault → Type 0
Applies p a old new (Ok x) = Can p a old × (new ≡ after p a old)
Applies p a old new (Err e) = IsFaultByName p a old e × (new ≡ old)

-- a step that may be made leads to a bounded state
abbrev pub LeadsToBounded : Contents → Step → State → Type 0
LeadsToBounded p a s = Can p a s → IsBounded (after p a s)
