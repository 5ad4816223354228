-- Lines that are written before they are needed: those of a data word that is sent and then taken, with nothing else on
-- its way; and the pieces of those inside a block (profile).
use Rattle.std.specs.Prelude.{◌≡◌, ℕ, zero, suc, List, [], ◌∷◌, ◌++◌, Option, Some}
use Rattle.std.specs.Fmt.{decimal}
use Rattle.a429_link.specs.declared.state.SourceState.TheVariants.{Sending}
use Rattle.a429_link.specs.declared.state.SinkState.{SinkState}
use Rattle.a429_link.specs.declared.state.SinkState.TheVariants.{Granted, InBlock}
use Rattle.a429_link.specs.declared.state.States.{States}
use Rattle.a429_cert.specs.declared.act.Act.TheVariants.{Sent, SinkTakes}
use Rattle.a429_cert.specs.declared.line.MovedLine.{MovedLine}
use Rattle.a429_cert.specs.declared.line.CertLine.{CertLine}
use Rattle.a429_cert.specs.declared.line.CertLine.TheVariants.{Moved}
use Rattle.a429_cert.specs.declared.version.Version.{Version}
use Rattle.a429_cert.specs.Field.{field}
use Rattle.a429_cert.specs.States.{source_text, sink_text}
use Rattle.a429_cert.specs.Line.{spelling, SpellsLine}
use Rattle.a429_cert.specs.Lines.{certificate_lines}
use Rattle.a429_cert.specs.Version.{read_as}
use Rattle.a429_cert.specs.Fault.{SaysLine}

-- the states after word k of a block was sent, and after it was taken: the first word has number 0
abbrev pub sent_states : ℕ → States
sent_states k = record { source = Sending (suc k); sink = InBlock k; to_sink = 1; to_source = 0 }

abbrev pub taken_states : ℕ → States
taken_states k = record { source = Sending (suc k); sink = InBlock (suc k); to_sink = 0; to_source = 0 }

abbrev pub sent_line : ℕ → CertLine
sent_line k = Moved (record { act = Sent; states = sent_states k })

abbrev pub taken_line : ℕ → CertLine
taken_line k = Moved (record { act = SinkTakes; states = taken_states k })

-- their texts
abbrev pub sent_text : ℕ → List ℕ
sent_text k = spelling (sent_line k)

abbrev pub taken_text : ℕ → List ℕ
taken_text k = spelling (taken_line k)

-- both, each with its line feed
abbrev pub pair_text : ℕ → List ℕ
pair_text k = sent_text k ++ 10 ∷ (taken_text k ++ 10 ∷ [])

-- the sink that has granted a block, and taken so many of its words
abbrev pub sink_after : ℕ → SinkState
sink_after zero = Granted
sink_after (suc k) = InBlock (suc k)

-- a line ends with the states after its step: inside a block so many words are sent; so many are taken, and so many are on their way to the sink
abbrev pub sending_field : ℕ → List ℕ
sending_field sent = field (source_text (Sending sent))

abbrev pub ways_fields : ℕ → ℕ → List ℕ
ways_fields to_sink taken = field (sink_text (sink_after taken)) ++ field (decimal to_sink) ++ field (decimal 0)

-- what the numbers below n give, in order
abbrev pub values_below : {A : Type 0} → (ℕ → A) → ℕ → List A
values_below of zero = []
values_below of (suc n) = values_below of n ++ of n ∷ []

-- the text says this line, in each version
abbrev pub SaysAlways : Option (List ℕ) → MovedLine → Type 0
SaysAlways text m = (v : Version) → SaysLine (read_as v text) (Moved m)

-- the text is a line that says this
pub record IsLikely (text : List ℕ) (m : MovedLine) : Type 0 where
  pub says : SaysAlways (Some text) m
  pub spells : SpellsLine text (Moved m)
  pub ends : (rest : List ℕ) → certificate_lines (text ++ 10 ∷ rest) ≡ Some text ∷ certificate_lines rest
