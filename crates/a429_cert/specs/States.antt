-- The states that a line writes: their spelling, their ranges, and how they are read (profile).
use Rattle.std.specs.Prelude.{ℕ, ◌≤◌, List, [], ◌∷◌, ◌++◌, ◌&&◌, ◌==◌, nat_le, if◌then◌else◌, codes, Option, Some, None, ⊤}
use Rattle.std.specs.Fmt.{decimal}
use Rattle.a429_link.specs.declared.state.SourceState.{SourceState}
use Rattle.a429_link.specs.declared.state.SourceState.TheVariants.{Idle, Awaiting, Sending, Waiting}
use Rattle.a429_link.specs.declared.state.SinkState.{SinkState}
use Rattle.a429_link.specs.declared.state.SinkState.TheVariants.{Quiet, OwesClear, Granted, InBlock, OwesAck, OwesNak}
use Rattle.a429_link.specs.declared.state.States.{States}
use Rattle.a429_cert.specs.Field.{◌>>=◌, when, with_rest, decimal_in, last_decimal_in}

-- ---- the source

-- the source: idle, awaiting the clear answer, sending with so many words sent, waiting for the answer (profile)
abbrev pub source_text : SourceState → List ℕ
source_text Idle = codes "I"
source_text Awaiting = codes "C"
source_text (Sending sent) = codes "S" ++ decimal sent
source_text Waiting = codes "W"

-- of a block that it still sends, the source has sent 0 to 254 words (profile)
abbrev pub IsSource : SourceState → Type 0
IsSource (Sending sent) = sent ≤ 254
IsSource _ = ⊤

-- how many words are sent of a block
abbrev pub sending_in : Option (ℕ × List ℕ) → Option (SourceState × List ℕ)
sending_in count = do
  sent ← count
  when (nat_le sent.0 254) (Sending sent.0, sent.1)

-- a state of the source that is a letter alone
abbrev pub source_letter : ℕ → List ℕ → Option (SourceState × List ℕ)
source_letter b rest = if b == 73 then Some (Idle, rest) else if b == 67 then Some (Awaiting, rest) else if b == 87 then Some (Waiting, rest) else None

-- the state of the source
abbrev pub source_in : List ℕ → Option (SourceState × List ℕ)
source_in [] = None
source_in (b ∷ rest) = if b == 83 then sending_in (decimal_in rest) else source_letter b rest

-- ---- the sink

-- the sink: quiet, owing the clear answer, granted, in a block with so many words taken, owing an acknowledgement or its negative (profile)
abbrev pub sink_text : SinkState → List ℕ
sink_text Quiet = codes "Q"
sink_text OwesClear = codes "c"
sink_text Granted = codes "G"
sink_text (InBlock taken) = codes "B" ++ decimal taken
sink_text OwesAck = codes "A"
sink_text OwesNak = codes "N"

-- of a block that it still takes, the sink has 1 to 254 words (profile)
abbrev pub IsSink : SinkState → Type 0
IsSink (InBlock taken) = (1 ≤ taken) × (taken ≤ 254)
IsSink _ = ⊤

-- how many words are taken of a block
abbrev pub block_in : Option (ℕ × List ℕ) → Option (SinkState × List ℕ)
block_in count = do
  taken ← count
  when (nat_le 1 taken.0 && nat_le taken.0 254) (InBlock taken.0, taken.1)

-- a state of the sink that is a letter alone
abbrev pub sink_letter : ℕ → List ℕ → Option (SinkState × List ℕ)
sink_letter b rest =
    if b == 81 then Some (Quiet, rest) else if b == 99 then Some (OwesClear, rest) else if b == 71 then Some (Granted, rest)
    else if b == 65 then Some (OwesAck, rest) else if b == 78 then Some (OwesNak, rest) else None

-- the state of the sink
abbrev pub sink_in : List ℕ → Option (SinkState × List ℕ)
sink_in [] = None
sink_in (b ∷ rest) = if b == 66 then block_in (decimal_in rest) else sink_letter b rest

-- ---- both, and the words between them

-- the states in the next fields, and nothing after them
unfoldable pub states_in : List ℕ → Option States
states_in text = do
  source ← with_rest source_in text
  sink ← with_rest sink_in source.1
  to_sink ← with_rest decimal_in sink.1
  to_source ← last_decimal_in to_sink.1
  Some (record { source = source.0; sink = sink.0; to_sink = to_sink.0; to_source = to_source })
