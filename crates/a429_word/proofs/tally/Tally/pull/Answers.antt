use Rattle.std.proofs.Common.{rules}
use Rattle.a429_word.proofs.tally.Tally.pull.Goals as goal

pub returns-in-Ok-clause-left : goal.returns-in-Ok-clause-left
returns-in-Ok-clause-left g c = search rules
