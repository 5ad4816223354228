use Rattle.a429_link.proofs.TraceReasons.{none_where_good, owes_where_bad}
use Rattle.a429_link.proofs.laws.traces.a_bad_block_has_a_reason.Goals as goal

pub returns-clause-good : goal.returns-clause-good
returns-clause-good c = none_where_good

pub returns-clause-owed : goal.returns-clause-owed
returns-clause-owed c = owes_where_bad
