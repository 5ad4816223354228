use Rattle.a429_import.specs.Fields.{fields_left}
use Rattle.a429_import.proofs.ImportFacts.{known_stay}
use Rattle.a429_import.proofs.progress.Progress.lot_of.Goals as goal

pub returns-in-Ok-clause-columns : goal.returns-in-Ok-clause-columns
returns-in-Ok-clause-columns c =
    known_stay c.args.map.now c.args.self.now.columns c.in-Some.columns (fields_left c.args.fields) c.in-Ok.lot c.in-Some.is
