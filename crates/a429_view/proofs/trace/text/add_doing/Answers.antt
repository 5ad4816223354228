use Rattle.std.proofs.Common.{arith, subst}
use Rattle.a429_view.specs.Line.{Adds}
use Rattle.a429_view.proofs.LineFacts.{◌▹◌, within}
use Rattle.a429_view.proofs.TraceFacts.{block_text}
use Rattle.a429_view.proofs.trace.text.add_doing.Goals as goal

pub returns-in-OwesClear : goal.returns-in-OwesClear
returns-in-OwesClear c = rw c.in-OwesClear.is (within 71 c.add_named.ensures (omega arith))

pub returns-in-Granted : goal.returns-in-Granted
returns-in-Granted c = rw c.in-Granted.is (within 71 c.add_named-in-Granted.ensures (omega arith))

pub returns-in-InBlock : goal.returns-in-InBlock
returns-in-InBlock c =
    let b = c.in-InBlock in
    rw b.is
    (subst (Adds c.args.line.now c.add_to.new.line 71) (block_text b.file b.ldu b.taken b.asked) (within 71 c.add_to.ensures (omega arith)))

pub returns-in-OwesAck : goal.returns-in-OwesAck
returns-in-OwesAck c = rw c.in-OwesAck.is (within 71 c.add_unit.ensures (omega arith))

pub returns-in-OwesNak : goal.returns-in-OwesNak
returns-in-OwesNak c = rw c.in-OwesNak.is (within 71 (c.put-in-OwesNak.ensures ▹ c.add_why.ensures) (omega arith))

pub returns-in-Accepts : goal.returns-in-Accepts
returns-in-Accepts c = rw c.in-Accepts.is (within 71 (c.add_unit-in-Accepts.ensures ▹ c.add_crossing.ensures) (omega arith))

pub returns-in-Again : goal.returns-in-Again
returns-in-Again c = rw c.in-Again.is (within 71 c.add_unit-in-Again.ensures (omega arith))
