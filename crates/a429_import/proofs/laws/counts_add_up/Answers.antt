use Rattle.a429_import.proofs.CountsFacts.{add_up, lines_add_up}
use Rattle.a429_import.proofs.laws.counts_add_up.Goals as goal

pub returns-clause-lines : goal.returns-clause-lines
returns-clause-lines c = add_up

pub returns-clause-entries : goal.returns-clause-entries
returns-clause-entries c = lines_add_up
