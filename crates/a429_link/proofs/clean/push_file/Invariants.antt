use Rattle.a429_link.proofs.CleanFiles.{AreWords}
use Rattle.a429_link.proofs.clean.push_file.Given as goal

abbrev pub invariant-loop-unit : goal.invariant-loop-unit
invariant-loop-unit l = AreWords l.profile.codes l.file l.number l.unit-index l.units l.fn.run.items l.run.items
