use Rattle.std.proofs.Common.{refl}
use Rattle.a429_parts.proofs.PartsFacts.{holds_first}
use Rattle.a429_parts.proofs.parting.Parting.new.Goals as goal

pub returns-clause-holds : goal.returns-clause-holds
returns-clause-holds c p = holds_first p c.args.most _ c.new.ensures refl c.new-2.ensures.items
