use Rattle.std.proofs.Common.{◌++◌, codes, append_assoc, subst, sym, arith}
use Rattle.std.specs.Fmt.{decimal}
use Rattle.a429_view.specs.Line.{Adds}
use Rattle.a429_view.proofs.LineFacts.{◌▹◌, within}
use Rattle.a429_view.proofs.trace.text.add_next.Goals as goal

pub returns-in-Ack : goal.returns-in-Ack
returns-in-Ack c =
    let unit = codes "rts, ack " ++ decimal c.in-Ack.file ++ codes " " ++ decimal c.in-Ack.ldu in
    rw c.in-Ack.is
    (subst (Adds c.args.line.now c.put-in-Ack.new.self 21) (sym (append_assoc unit (codes ", ") (codes "nak")))
    (within 21 (c.add_unit.ensures ▹ c.put-in-Ack.ensures) (omega arith)))
