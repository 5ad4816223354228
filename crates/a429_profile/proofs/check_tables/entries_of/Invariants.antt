use Rattle.a429_profile.specs.CheckTables.{AreTablesUpTo}
use Rattle.a429_profile.proofs.check_tables.entries_of.Given as goal

abbrev pub invariant-loop-at : goal.invariant-loop-at
invariant-loop-at l = AreTablesUpTo l.at l.poly l.entries.items
