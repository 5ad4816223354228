use Rattle.a429_parts.specs.Keeping.{taken}
use Rattle.a429_commands.specs.Blocks.{AreRowsBefore, ShowsAttempts}
use Rattle.a429_commands.specs.Ends.{by_answer}
use Rattle.a429_commands.proofs.BlocksRows.{says_after}
use Rattle.a429_commands.proofs.engines.blocks.BlockingRelay.put.Goals as goal

pub put_rows-requires : goal.put_rows-requires
put_rows-requires g c = c.begin-blocks.ensures.none c.args.profile.now

pub returns-clause-first : goal.returns-clause-first
returns-clause-first g c =
    let p = c.args.profile.now in
    let t = taken c.args.rec.now c.put_rows.new.rec in
    let said =
    says_after g.W.Write.contents c.args.sheet.now c.begin-blocks.new.sheet c.put_rows.new.sheet p
    (by_answer (ShowsAttempts p t) (AreRowsBefore p t) c.put_rows.result) (c.begin-blocks.ensures.columns p) c.put_rows.ensures.text in
    (said.0, (c.put_rows.result, said.1), said.2)

pub returns-clause-all : goal.returns-clause-all
returns-clause-all g c works =
    let p = c.args.profile.now in
    let t = taken c.args.rec.now c.put_rows.new.rec in
    says_after g.W.Write.contents c.args.sheet.now c.begin-blocks.new.sheet c.put_rows.new.sheet p
    (by_answer (ShowsAttempts p t) (AreRowsBefore p t) c.put_rows.result) (c.begin-blocks.ensures.columns p) c.put_rows.ensures.text
