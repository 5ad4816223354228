use Rattle.std.proofs.Common.{rules}
use Rattle.a429_view.proofs.units.rows.UnitRowsListener.load.Goals as goal

pub returns-clause-heard : goal.returns-clause-heard
returns-clause-heard g c = search rules
