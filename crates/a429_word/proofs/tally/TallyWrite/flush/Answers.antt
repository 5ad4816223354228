use Rattle.std.proofs.Common.{rules}
use Rattle.a429_word.proofs.tally.TallyWrite.flush.Goals as goal

pub returns-then-is_err-clause-device : goal.returns-then-is_err-clause-device
returns-then-is_err-clause-device g c = search rules
