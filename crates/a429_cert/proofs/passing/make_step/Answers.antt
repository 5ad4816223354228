use Rattle.std.proofs.Common.{rules}
use Rattle.a429_cert.proofs.passing.make_step.Goals as goal

pub returns-else-load-clause-passed : goal.returns-else-load-clause-passed
returns-else-load-clause-passed c = search rules
