use Rattle.a429_link.proofs.MessageRead.{is_read}
use Rattle.a429_link.proofs.TraceFiles.{files_delivered, next_received, observed_sink}
use Rattle.a429_link.proofs.laws.traces.a_recording_has_its_files.Goals as goal

pub returns-clause-files : goal.returns-clause-files
returns-clause-files c = λ p r items e. files_delivered p (is_read p r.is_run.sound) r.first r.is_run.byte r.steps r.is_run.run items e

pub returns-clause-observer : goal.returns-clause-observer
returns-clause-observer c = observed_sink

pub returns-clause-step : goal.returns-clause-step
returns-clause-step c = next_received
