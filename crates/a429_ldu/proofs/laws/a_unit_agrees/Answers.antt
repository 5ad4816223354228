use Rattle.a429_ldu.proofs.LduFacts.{unit_agrees}
use Rattle.a429_ldu.proofs.laws.a_unit_agrees.Goals as goal

pub returns : goal.returns
returns c = unit_agrees
