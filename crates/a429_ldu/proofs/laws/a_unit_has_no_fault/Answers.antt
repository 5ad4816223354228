use Rattle.a429_ldu.proofs.LduFacts.{no_fault, one_fault}
use Rattle.a429_ldu.proofs.laws.a_unit_has_no_fault.Goals as goal

pub returns-clause-none : goal.returns-clause-none
returns-clause-none c = no_fault

pub returns-clause-one : goal.returns-clause-one
returns-clause-one c = one_fault
