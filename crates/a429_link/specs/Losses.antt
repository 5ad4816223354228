-- The words of a block that the source has still to send, lost one after the other (what may be lost: profile).
use Rattle.std.specs.Prelude.{ℕ, ◌-◌, nat_lt, if◌then◌else◌, List, [], ◌∷◌, replicate, Option, Some}
use Rattle.a429_profile.specs.Profile.{Contents}
use Rattle.a429_ldu.specs.Ldu.{LduValue, count_of}
use Rattle.a429_link.specs.declared.state.SourceState.{SourceState}
use Rattle.a429_link.specs.declared.state.SourceState.TheVariants.{Sending, Waiting}
use Rattle.a429_link.specs.declared.step.Step.{Step}
use Rattle.a429_link.specs.declared.step.Step.TheVariants.{SentLost}
use Rattle.a429_link.specs.Source.{Source}
use Rattle.a429_link.specs.Step.{after}
use Rattle.a429_link.specs.State.{State}
use Rattle.a429_link.specs.Run.{IsBounded}

-- how many words of its block a source in this phase has still to send; none where it sends no block
abbrev pub left_of : Option LduValue → SourceState → ℕ
left_of (Some u) (Sending k) = count_of u - k
left_of _ _ = 0

abbrev pub words_left : Source → ℕ
words_left s = left_of s.current s.phase

-- so many words are lost
abbrev pub losses : ℕ → List Step
losses n = replicate n SentLost

-- the phase after the last word of the block: the source waits
abbrev pub phase_past : Option LduValue → SourceState → SourceState
phase_past (Some u) (Sending k) = if nat_lt k (count_of u) then Waiting else Sending k
phase_past _ phase = phase

abbrev pub with_rest_lost : Source → Source
with_rest_lost s = record s { phase = phase_past s.current s.phase }

-- each state on the way of these steps is bounded
abbrev pub StaysBounded : Contents → List Step → State → Type 0
StaysBounded p [] s = IsBounded s
StaysBounded p (a ∷ steps) s = IsBounded s × StaysBounded p steps (after p a s)
