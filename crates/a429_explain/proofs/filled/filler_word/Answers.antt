use Rattle.std.proofs.Common.{rules}
use Rattle.a429_explain.proofs.filled.filler_word.Goals as goal

pub returns : goal.returns
returns c = search rules
