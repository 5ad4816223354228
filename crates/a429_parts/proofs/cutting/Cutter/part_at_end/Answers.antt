use Rattle.std.proofs.Common.{◌<◌, length, rules}
use Rattle.a429_parts.proofs.CutterFacts.{ends_nowhere_at_end, next_part_at_end}
use Rattle.a429_parts.proofs.cutting.Cutter.part_at_end.Goals as goal

pub returns-clause-some : goal.returns-clause-some
returns-clause-some c =
    let s = c.args.self.now in
    let more : s.most < length s.waiting = search rules in
    next_part_at_end s c.last_part.result more c.last_part.ensures.some

pub returns-clause-many : goal.returns-clause-many
returns-clause-many c err =
    let s = c.args.self.now in
    let more : s.most < length s.waiting = search rules in
    (more, λ reach. ends_nowhere_at_end s more reach (c.last_part.ensures.none err))
