use Rattle.std.proofs.Common.{◌∙◌, ap, Err}
use Rattle.a429_commands.proofs.StreamingFacts.{whole_fault}
use Rattle.a429_commands.proofs.engines.recording.entries_of.Goals as goal

pub returns-in-Err-clause-err : goal.returns-in-Err-clause-err
returns-in-Err-clause-err g c = rw c.fault_of.ensures
    (whole_fault _ _ c.in-Err.fault c.in-Err.ensures.err
    (λ is. c.read_entries.ensures.device.0 (c.in-Err.is ∙ ap Err is)) c.in-Err.ensures.no_failed)
