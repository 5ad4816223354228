use Rattle.std.proofs.Common.{rules}
use Rattle.a429_explain.proofs.whole.Attempt.take.Goals as goal

pub returns-in-Some-Rts : goal.returns-in-Some-Rts
returns-in-Some-Rts c = search rules
