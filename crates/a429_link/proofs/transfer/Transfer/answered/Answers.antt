use Rattle.std.proofs.Common.{rules}
use Rattle.a429_link.proofs.transfer.Transfer.answered.Goals as goal

pub returns : goal.returns
returns c = search rules

pub returns-then-is_err : goal.returns-then-is_err
returns-then-is_err c = search rules
