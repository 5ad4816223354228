use Rattle.a429_link.proofs.MessageRead.{is_read}
use Rattle.a429_link.proofs.SinkFromTrace.{same_delivered}
use Rattle.a429_link.proofs.laws.one_trace_one_delivery.Goals as goal

pub returns : goal.returns
returns c =
    λ p r s.
    same_delivered p r.first s.first r.steps s.steps (is_read p r.is_run.sound) r.is_run.byte s.is_run.byte r.is_run.run s.is_run.run
