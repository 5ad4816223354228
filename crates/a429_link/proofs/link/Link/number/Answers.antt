use Rattle.std.proofs.Common.{rules}
use Rattle.a429_link.proofs.link.Link.number.Goals as goal

pub returns : goal.returns
returns c = search rules
