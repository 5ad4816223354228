-- The state of a transfer: the source, the sink, and the words between them (ARINC 429 Part 3).
use Rattle.std.specs.Prelude.{ℕ, ◌+◌, List, [], ◌∷◌, length, None}
use Rattle.a429_profile.specs.Profile.{Contents}
use Rattle.a429_link.specs.declared.state.SourceState.TheVariants.{Idle}
use Rattle.a429_link.specs.declared.state.SinkState.{SinkState}
use Rattle.a429_link.specs.declared.state.SinkState.TheVariants as shown
use Rattle.a429_link.specs.declared.state.States.{States}
use Rattle.a429_link.specs.Number.{first_number}
use Rattle.a429_link.specs.Source.{Source}
use Rattle.a429_link.specs.Sink.{Sink, SinkSide, SinkPhase, Quiet, OwesClear, Granted, InBlock, OwesAck, OwesNak}
use Rattle.a429_link.specs.Trace.{sink_at_first}

pub record State : Type 0 where
  pub source : Source
  pub sink : Sink
  -- the words of bus A that are recorded and that the sink has not taken, in order
  pub to_sink : List ℕ
  -- the words of bus B that are recorded and that the source has not taken, in order
  pub to_source : List ℕ

-- nothing has happened: the first file has this number
abbrev pub start : Contents → ℕ → State
start p first =
    record {
      source = record { number = first_number p.codes first; current = None; phase = Idle; give_ups = 0 };
      sink = sink_at_first;
      to_sink = [];
      to_source = [];
    }

abbrev pub IsNonEmpty : {X : Type 0} → List X → Type 0
IsNonEmpty [] = ⊥
IsNonEmpty (w ∷ ws) = Unit {0}

-- all but the first
abbrev pub rest : {X : Type 0} → List X → List X
rest [] = []
rest (w ∷ ws) = ws

-- the first word on its way to the sink has come, and the sink is now this one
abbrev pub past_first : SinkSide → Sink → SinkSide
past_first s k = record { sink = k; to_sink = rest s.to_sink }

-- ---- a state as a certificate writes it (profile)

abbrev pub sink_state_of : SinkPhase → SinkState
sink_state_of Quiet = shown.Quiet
sink_state_of OwesClear = shown.OwesClear
sink_state_of Granted = shown.Granted
sink_state_of (InBlock b) = shown.InBlock (length b.words + 1)
sink_state_of (OwesAck b flags) = shown.OwesAck
sink_state_of OwesNak = shown.OwesNak

-- what a certificate writes of a state: the phases, and how many words are on their way to the sink and to the source
abbrev pub states_of : State → States
states_of s = record { source = s.source.phase; sink = sink_state_of s.sink.phase; to_sink = length s.to_sink; to_source = length s.to_source }
