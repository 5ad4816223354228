use Rattle.std.proofs.Common.{rules}
use Rattle.a429_import.proofs.value.number.Goals as goal

pub returns-then-number-from-clause-gives : goal.returns-then-number-from-clause-gives
returns-then-number-from-clause-gives c = search rules
