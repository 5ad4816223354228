use Rattle.a429_record.proofs.MarkFacts.{without_mark}
use Rattle.a429_record.proofs.line.without_mark.Goals as goal

pub returns-then-starts_with : goal.returns-then-starts_with
returns-then-starts_with c = (without_mark c.args.line.now c.starts_with.result c.starts_with.ensures.value).0 c.if-starts_with.true

pub returns-else-starts_with : goal.returns-else-starts_with
returns-else-starts_with c = (without_mark c.args.line.now c.starts_with.result c.starts_with.ensures.value).1 c.if-starts_with.false
