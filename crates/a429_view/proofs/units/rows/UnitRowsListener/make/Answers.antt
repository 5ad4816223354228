use Rattle.std.proofs.Common.{rules}
use Rattle.a429_view.proofs.units.rows.UnitRowsListener.make.Goals as goal

pub returns-in-Ok-clause-heard : goal.returns-in-Ok-clause-heard
returns-in-Ok-clause-heard g c = search rules
