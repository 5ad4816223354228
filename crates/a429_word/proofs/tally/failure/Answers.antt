use Rattle.std.proofs.Common.{rules}
use Rattle.a429_word.proofs.tally.failure.Goals as goal

pub returns : goal.returns
returns c = search rules
