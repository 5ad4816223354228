use Rattle.std.proofs.Common.{rules}
use Rattle.a429_link.proofs.number.UnitNumber.goes_on.Goals as goal

pub returns-then-eq : goal.returns-then-eq
returns-then-eq c = search rules
