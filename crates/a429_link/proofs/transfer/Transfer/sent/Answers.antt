use Rattle.std.proofs.Common.{rules}
use Rattle.a429_link.proofs.transfer.Transfer.sent.Goals as goal

pub returns : goal.returns
returns c = search rules
