use Rattle.a429_cert.proofs.NoFault.{no_fault}
use Rattle.a429_cert.proofs.laws.what_explains_has_no_fault.Goals as goal

pub returns : goal.returns
returns c = λ p text e f. no_fault p text e.items e.first e.steps f e.explains
