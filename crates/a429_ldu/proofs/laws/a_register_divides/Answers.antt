use Rattle.a429_ldu.proofs.CheckWordFacts.{check-by-register}
use Rattle.a429_ldu.proofs.laws.a_register_divides.Goals as goal

pub returns : goal.returns
returns c = check-by-register
