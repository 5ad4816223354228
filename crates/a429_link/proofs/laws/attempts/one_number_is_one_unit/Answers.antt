use Rattle.a429_link.proofs.MessageRead.{is_read}
use Rattle.a429_link.proofs.NumberKept.{one_unit, parts_of_whole}
use Rattle.a429_link.proofs.laws.attempts.one_number_is_one_unit.Goals as goal

pub returns-clause-unit : goal.returns-clause-unit
returns-clause-unit c = λ p n before group is. one_unit p (is_read p is) n before group

pub returns-clause-parts : goal.returns-clause-parts
returns-clause-parts c = λ p n before group is. parts_of_whole p (is_read p is) n before group
