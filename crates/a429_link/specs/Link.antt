-- A link as its callers see it.
use Rattle.std.specs.Prelude.{ℕ, List, [], ◌∷◌, ◌++◌}
use Rattle.a429_profile.specs.Profile.{Contents, IsProfile}
use Rattle.a429_link.specs.declared.file.FileBytes.{FileBytes}
use Rattle.a429_link.specs.declared.step.Step.{Step}
use Rattle.a429_link.specs.Step.{Can, after}
use Rattle.a429_link.specs.Sink.{without_files}
use Rattle.a429_link.specs.State.{start, State}
use Rattle.a429_link.specs.Run.{IsReached}

-- the profile, and the state, whose delivered files are those that are not handed out yet
pub record LinkValue : Type 0 where
  pub profile : Contents
  pub state : State

-- the state, with files that were delivered before
abbrev pub with_earlier : List FileBytes → State → State
with_earlier files s = record s { sink = record (s.sink) { received = record (s.sink.received) { files = files ++ s.sink.received.files } } }

-- the state with its delivered files handed out
abbrev pub handed_out : State → State
handed_out s = record s { sink = without_files s.sink }

-- some run of the profile leads here, where files that were handed out count as delivered
pub record IsKept (p : Contents) (s : State) : Type 0 where
  pub sound : IsProfile p
  pub earlier : List FileBytes
  pub reached : IsReached p (with_earlier earlier s)

-- ---- files that are taken while a run goes on (profile)

-- what a caller does with a link; a step that is refused changes nothing, and is left out
pub data Call : Type 0 where
  -- a step is made
  Applied : (step : Step) → Call
  -- the delivered files are taken
  Taken : Call

-- each step may be made where the calls before it lead
abbrev pub AreMade : Contents → List Call → State → Type 0
AreMade p [] s = Unit {0}
AreMade p (Applied a ∷ calls) s = Can p a s × AreMade p calls (after p a s)
AreMade p (Taken ∷ calls) s = AreMade p calls (handed_out s)

-- the state that calls lead to
abbrev pub left_by : Contents → List Call → State → State
left_by p [] s = s
left_by p (Applied a ∷ calls) s = left_by p calls (after p a s)
left_by p (Taken ∷ calls) s = left_by p calls (handed_out s)

-- the files that they take, in order
abbrev pub taken : Contents → List Call → State → List FileBytes
taken p [] s = []
taken p (Applied a ∷ calls) s = taken p calls (after p a s)
taken p (Taken ∷ calls) s = s.sink.received.files ++ taken p calls (handed_out s)

-- the files that calls take, in order, from the start on, where the first file has this number; and then those that wait
abbrev pub taken_and_waiting : Contents → ℕ → List Call → List FileBytes
taken_and_waiting p first calls = taken p calls (start p first) ++ (left_by p calls (start p first)).sink.received.files

-- the state that they lead to from there, with the files that they take put back before those that wait
abbrev pub left_with_taken : Contents → ℕ → List Call → State
left_with_taken p first calls = with_earlier (taken p calls (start p first)) (left_by p calls (start p first))

-- their steps, in order
abbrev pub applied : List Call → List Step
applied [] = []
applied (Applied a ∷ calls) = a ∷ applied calls
applied (Taken ∷ calls) = applied calls
