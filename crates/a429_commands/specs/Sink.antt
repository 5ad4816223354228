-- What `a429 sink` writes (profile).
use Rattle.std.specs.Prelude.{◌≡◌, ℕ, List, [], Result}
use Rattle.a429_profile.specs.Profile.{Contents}
use Rattle.a429_record.specs.declared.fault.ReadFault.{ReadFault}
use Rattle.a429_record.specs.declared.fault.ReadFault.TheVariants as read
use Rattle.a429_parts.specs.Keeping.{Taken}
use Rattle.a429_sink.specs.declared.judging.SinkVerdict.{SinkVerdict}
use Rattle.a429_sink.specs.declared.judging.SinkVerdict.TheVariants as verdict
use Rattle.a429_sink.specs.Judging.{IsSinkVerdict, SinkUnread}
use Rattle.a429_view.specs.Sink.{sink_text}
use Rattle.a429_commands.specs.declared.fault.RunFault.{RunFault}
use Rattle.a429_commands.specs.declared.fault.RunFault.TheVariants as run
use Rattle.a429_commands.specs.Ends.{by_answer}

abbrev pub sink_status : SinkVerdict → ℕ
sink_status (verdict.Yes files) = 0
sink_status (verdict.No refusal) = 1

-- the verdict on the sink of what was taken: its text and its status
pub record JudgesSink (p : Contents) (t : Taken) (status : ℕ) (text : List ℕ) : Type 0 where
  pub verdict : SinkVerdict
  pub is : IsSinkVerdict p t verdict
  pub status_is : status ≡ sink_status verdict
  pub text_is : text ≡ sink_text verdict

-- before a fault of the reading nothing is written
pub record JudgesNone (t : Taken) (fault : ReadFault) (text : List ℕ) : Type 0 where
  pub came : SinkUnread t fault
  pub text_is : text ≡ []

-- by the fault of the command
abbrev pub JudgesNoSink : Contents → Taken → RunFault → List ℕ → Type 0
JudgesNoSink p t (run.Read f) text = JudgesNone t f text
JudgesNoSink p t run.Memory text = JudgesNone t read.OutOfMemory text
JudgesNoSink p t run.Device text = JudgesNone t read.Device text
JudgesNoSink p t e text = ⊥

-- the text of any answer
abbrev pub JudgesAny : Contents → Taken → List ℕ → Type 0
JudgesAny p t text = (answer : Result ℕ RunFault) × by_answer (JudgesSink p t) (JudgesNoSink p t) answer text
