use Rattle.a429_link.proofs.AssignedRun.{run_is_assigned}
use Rattle.a429_link.proofs.MessageRead.{is_read}
use Rattle.a429_link.proofs.laws.attempts.runs_record_what_can_be_assigned.Goals as goal

pub returns : goal.returns
returns c = λ p items is. run_is_assigned p is (is_read p is) items
