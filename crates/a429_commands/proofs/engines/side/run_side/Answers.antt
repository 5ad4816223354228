use Rattle.std.proofs.Common.{refl}
use Rattle.a429_commands.specs.Side.{sided, unsided}
use Rattle.a429_commands.proofs.engines.side.run_side.Goals as goal

pub returns-in-Ok : goal.returns-in-Ok
returns-in-Ok g c = sided c.in-Ok.counts c.in-Ok.ensures.ok c.in-Ok.ensures.works c.write_at_once.ensures

pub returns-in-Err : goal.returns-in-Err
returns-in-Err g c = unsided c.in-Err.ensures.err refl
