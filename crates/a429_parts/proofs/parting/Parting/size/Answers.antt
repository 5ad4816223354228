use Rattle.a429_parts.proofs.PartsFacts.{nowhere_at_end, nowhere_yet, part_at_end, part_yet}
use Rattle.a429_parts.proofs.parting.Parting.size.Goals as goal

pub returns-then-at_end-clause-some : goal.returns-then-at_end-clause-some
returns-then-at_end-clause-some c =
    part_at_end c.args.at_end c.args.self.now.cutter c.part_at_end.result c.if-at_end.true c.part_at_end.ensures.some

pub returns-then-at_end-clause-many : goal.returns-then-at_end-clause-many
returns-then-at_end-clause-many c err =
    nowhere_at_end c.args.at_end c.args.self.now.cutter c.if-at_end.true (c.part_at_end.ensures.many err)

pub returns-else-at_end-clause-some : goal.returns-else-at_end-clause-some
returns-else-at_end-clause-some c = part_yet c.args.at_end c.args.self.now.cutter c.part.result c.part.ensures.some

pub returns-else-at_end-clause-many : goal.returns-else-at_end-clause-many
returns-else-at_end-clause-many c err = nowhere_yet c.args.at_end c.args.self.now.cutter (c.part.ensures.many err)
