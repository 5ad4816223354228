-- What `sink` writes before a fault: nothing.
use Rattle.std.proofs.Common.{ℕ, List}
use Rattle.a429_profile.specs.Profile.{Contents}
use Rattle.a429_record.specs.declared.fault.ReadFault.{ReadFault}
use Rattle.a429_record.specs.declared.fault.ReadFault.TheVariants as read
use Rattle.a429_parts.specs.Keeping.{Taken}
use Rattle.a429_commands.specs.Sink.{JudgesNoSink, JudgesNone}
use Rattle.a429_commands.specs.Streaming.{reported}

-- as the command reports it
pub judges_none : (p : Contents) (t : Taken) (f : ReadFault) (text : List ℕ) → JudgesNone t f text → JudgesNoSink p t (reported f) text
judges_none p t read.Device text h = h
judges_none p t read.OutOfMemory text h = h
judges_none p t read.Header text h = h
judges_none p t (read.Row i) text h = h
judges_none p t (read.TimeBack i) text h = h
judges_none p t read.TooMany text h = h
judges_none p t read.Failed text h = h
