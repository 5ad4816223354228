use Rattle.std.proofs.Common.{◌<◌, length, rules}
use Rattle.a429_parts.proofs.CutterFacts.{ends_nowhere, next_part}
use Rattle.a429_parts.proofs.cutting.Cutter.part.Goals as goal

pub returns-clause-some : goal.returns-clause-some
returns-clause-some c =
    let s = c.args.self.now in
    let more : s.most < length s.waiting = search rules in
    let past = c.may_end_in_doubt.ensures.no c.if-may_end_in_doubt.false in
    next_part s c.last_part.result more past c.last_part.ensures.some

pub returns-clause-many : goal.returns-clause-many
returns-clause-many c err =
    let s = c.args.self.now in
    let more : s.most < length s.waiting = search rules in
    let past = c.may_end_in_doubt.ensures.no c.if-may_end_in_doubt.false in
    (more, λ reach rest. ends_nowhere s rest more past reach (c.last_part.ensures.none err))
