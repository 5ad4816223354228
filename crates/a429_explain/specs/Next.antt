-- The line of a certificate that is likely after another: a short form of a certificate leaves such lines out (profile).
use Rattle.std.specs.Prelude.{◌≡◌, ◌≤◌, ◌<◌, ℕ, ◌+◌, nat_lt, if◌then◌else◌}
use Rattle.a429_link.specs.declared.state.SourceState.{SourceState}
use Rattle.a429_link.specs.declared.state.SourceState.TheVariants.{Idle, Awaiting, Sending, Waiting}
use Rattle.a429_link.specs.declared.state.SinkState.{SinkState}
use Rattle.a429_link.specs.declared.state.SinkState.TheVariants.{Quiet, OwesClear, Granted, InBlock, OwesAck, OwesNak}
use Rattle.a429_link.specs.declared.state.States.{States}
use Rattle.a429_cert.specs.declared.act.Act.{Act}
use Rattle.a429_cert.specs.declared.act.Act.TheVariants.{Sent, SentLost, TimeOut, TakeAnswer, LoseAnswer, SinkTakes, Silent, Answered, FreeSeen, GiveUp}
use Rattle.a429_cert.specs.declared.line.MovedLine.{MovedLine}
use Rattle.a429_explain.specs.declared.next.BlockWords.{BlockWords}

-- the line of this step, with these states after it
abbrev pub moves : Act → SourceState → SinkState → ℕ → ℕ → MovedLine
moves act source sink to_sink to_source = record { act = act; states = record { source = source; sink = sink; to_sink = to_sink; to_source = to_source } }

-- the source, once it has sent one word more
abbrev pub sends : SourceState → SourceState
sends Idle = Awaiting
sends Awaiting = Awaiting
sends (Sending sent) = if nat_lt sent 254 then Sending (sent + 1) else Waiting
sends Waiting = Waiting

-- the source, once it has taken the answer that it waits for
abbrev pub after_answer : SourceState → SourceState
after_answer Idle = Idle
after_answer Awaiting = Sending 0
after_answer (Sending sent) = Idle
after_answer Waiting = Idle

-- the sink, once it has taken the word of a block that the source sent last
abbrev pub takes_word : SinkState → SinkState
takes_word (InBlock taken) = if nat_lt taken 254 then InBlock (taken + 1) else InBlock 1
takes_word Quiet = InBlock 1
takes_word OwesClear = InBlock 1
takes_word Granted = InBlock 1
takes_word OwesAck = InBlock 1
takes_word OwesNak = InBlock 1

-- or whatever word
abbrev pub takes : SourceState → SinkState → SinkState
takes Idle sink = takes_word sink
takes Awaiting sink = OwesClear
takes (Sending sent) sink = takes_word sink
takes Waiting sink = OwesAck

-- what comes after a word that the sink has taken: its answer, or the next word
abbrev pub after_taking : SourceState → SinkState → MovedLine
after_taking source OwesClear = moves Answered source Granted 0 1
after_taking source OwesAck = moves Answered source Quiet 0 1
after_taking source OwesNak = moves Answered source Quiet 0 1
after_taking source Quiet = moves Sent (sends source) Quiet 1 0
after_taking source Granted = moves Sent (sends source) Granted 1 0
after_taking source (InBlock taken) = moves Sent (sends source) (InBlock taken) 1 0

-- what comes after a word that is lost: the next one is lost too, and after the last the source waits no longer
abbrev pub after_loss : SourceState → SinkState → MovedLine
after_loss Waiting sink = moves TimeOut Idle sink 0 0
after_loss Idle sink = moves SentLost Awaiting sink 0 0
after_loss Awaiting sink = moves SentLost Awaiting sink 0 0
after_loss (Sending sent) sink = moves SentLost (sends (Sending sent)) sink 0 0

-- the line of a word of a block that is lost, after which the source is in this phase; the sink and the ways are as in these states
abbrev pub lost : States → SourceState → MovedLine
lost at source = record { act = SentLost; states = record at { source = source } }

-- what comes after a step, where no word is lost and the block is a long one
abbrev pub next_after : Act → SourceState → SinkState → MovedLine → MovedLine
next_after Sent source sink line = moves SinkTakes source (takes source sink) 0 0
next_after SinkTakes source sink line = after_taking source sink
next_after Answered source sink line = moves TakeAnswer (after_answer source) sink 0 0
next_after TakeAnswer source sink line = moves Sent (sends source) sink 1 0
next_after TimeOut source sink line = moves Sent (sends source) sink 1 0
next_after SentLost source sink line = after_loss source sink
next_after LoseAnswer source sink line = moves TimeOut Idle sink 0 0
next_after Silent source sink line = moves TimeOut Idle sink 0 0
next_after FreeSeen source sink line = line
next_after GiveUp source sink line = line

abbrev pub next_line : MovedLine → MovedLine
next_line line = next_after line.act line.states.source line.states.sink line

-- ---- words of a block, each sent and then taken, with nothing else on its way

-- the line with which word k is sent, counted from 0
abbrev pub sending : ℕ → MovedLine
sending k = moves Sent (Sending (k + 1)) (InBlock k) 1 0

-- the line with which the last of the first k words is taken
abbrev pub carried : ℕ → MovedLine
carried k = moves SinkTakes (Sending k) (InBlock k) 0 0

-- these words are likely sent and taken in the next `left` lines after this one
pub record BeginWords (line : MovedLine) (words : BlockWords) (left : ℕ) : Type 0 where
  pub before : line ≡ carried words.place
  pub some : 0 < words.count
  pub inside : words.place + words.count ≤ 254
  pub few : words.count + words.count ≤ left
