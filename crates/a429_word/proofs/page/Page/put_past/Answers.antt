use Rattle.std.proofs.Common.{rules}
use Rattle.a429_word.proofs.PageFacts.{AppendsPrefix-behind, AppendsPrefix-either}
use Rattle.a429_word.proofs.page.Page.put_past.Goals as goal

pub returns-clause-prefix : goal.returns-clause-prefix
returns-clause-prefix g c =
    AppendsPrefix-behind _ _ _ c.args.self.now c.args.bytes.now c.in_ok-finish.ensures.ok
    (AppendsPrefix-either _ _ c.put.result c.args.bytes.now c.put.ensures.ok c.put.ensures.err)

pub returns-clause-ok : goal.returns-clause-ok
returns-clause-ok g c = search rules
