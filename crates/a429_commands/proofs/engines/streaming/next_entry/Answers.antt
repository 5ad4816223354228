use Rattle.a429_commands.proofs.StreamingFacts.{none_before}
use Rattle.a429_commands.proofs.engines.streaming.next_entry.Goals as goal

pub returns-in-Err-clause-none_before : goal.returns-in-Err-clause-none_before
returns-in-Err-clause-none_before g c = rw c.fault_of.ensures (none_before _ _ c.in-Err.fault c.in-Err.ensures.gives)
