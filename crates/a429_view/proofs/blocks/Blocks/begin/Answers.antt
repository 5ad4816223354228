use Rattle.std.proofs.Common.{refl}
use Rattle.a429_view.proofs.blocks.Blocks.begin.Goals as goal

pub returns-clause-none : goal.returns-clause-none
returns-clause-none g c p = record { entries = refl; sink = c.new.ensures; row = refl }
