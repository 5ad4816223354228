use Rattle.a429_ldu.proofs.LduFacts.{few_bytes}
use Rattle.a429_ldu.proofs.laws.units_have_few_bytes.Goals as goal

pub returns : goal.returns
returns c = few_bytes
