use Rattle.a429_link.proofs.LinkCalls.{taken_files, taken_state, taken_run}
use Rattle.a429_link.proofs.laws.taken_then_delivered_is_the_runs.Goals as goal

pub returns-clause-files : goal.returns-clause-files
returns-clause-files c = taken_files

pub returns-clause-state : goal.returns-clause-state
returns-clause-state c = taken_state

pub returns-clause-run : goal.returns-clause-run
returns-clause-run c = taken_run
