use Rattle.std.proofs.Common.{refl}
use Rattle.a429_commands.specs.Import.{broken_off, imported_whole}
use Rattle.a429_commands.proofs.engines.import.run_import.Goals as goal

pub returns-in-Ok : goal.returns-in-Ok
returns-in-Ok g c =
    imported_whole c.in-Ok.report.turning c.in-Ok.report.import c.in-Ok.ensures.ok c.in-Ok.ensures.works c.write_at_once.ensures

pub returns-in-Err : goal.returns-in-Err
returns-in-Err g c = broken_off c.in-Err.ensures.err refl
