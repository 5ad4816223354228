use Rattle.std.proofs.Common.{rules}
use Rattle.a429_commands.proofs.UpgradeFacts.{version_taken}
use Rattle.a429_commands.proofs.engines.upgrade.take_version.Goals as goal

pub returns-in-Ok-clause-taken : goal.returns-in-Ok-clause-taken
returns-in-Ok-clause-taken g c =
    version_taken _ _ c.read_exact.new.buf c.is_version.result (search rules) c.read_exact.auto.buf c.is_version.ensures

pub returns-in-Err-clause-taken : goal.returns-in-Err-clause-taken
returns-in-Err-clause-taken g c = tt

pub returns-in-Err-clause-device : goal.returns-in-Err-clause-device
returns-in-Err-clause-device g c = search rules
