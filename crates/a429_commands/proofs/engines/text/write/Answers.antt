use Rattle.std.proofs.Common.{refl}
use Rattle.a429_commands.specs.Ends.{refused}
use Rattle.a429_commands.proofs.engines.text.write.Goals as goal

pub returns-in-Ok : goal.returns-in-Ok
returns-in-Ok g c = rw c.in-Ok.is c.write_text.ensures

pub returns-in-Err : goal.returns-in-Err
returns-in-Err g c = rw c.in-Err.is (refused _ refl refl refl)
