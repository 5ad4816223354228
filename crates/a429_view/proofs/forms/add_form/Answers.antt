use Rattle.std.proofs.Common.{◌++◌, codes, append_assoc, subst, sym, arith}
use Rattle.std.specs.Fmt.{decimal}
use Rattle.a429_view.specs.Forms.{ldu_text}
use Rattle.a429_view.specs.Line.{Adds}
use Rattle.a429_view.proofs.LineFacts.{◌▹◌, within}
use Rattle.a429_view.proofs.forms.add_form.Goals as goal

pub returns-in-Rts : goal.returns-in-Rts
returns-in-Rts c = rw c.in-Rts.is (within 30 c.add_named.ensures (omega arith))

pub returns-in-Cts : goal.returns-in-Cts
returns-in-Cts c = rw c.in-Cts.is (within 30 c.add_named-in-Cts.ensures (omega arith))

pub returns-in-Ack : goal.returns-in-Ack
returns-in-Ack c = rw c.in-Ack.is (within 30 c.add_unit.ensures (omega arith))

pub returns-in-Nak : goal.returns-in-Nak
returns-in-Nak c = rw c.in-Nak.is (within 30 (c.put.ensures ▹ c.put_hex.ensures) (omega arith))

pub returns-in-Sot : goal.returns-in-Sot
returns-in-Sot c =
    let unit = codes "sot " ++ ldu_text c.in-Sot.file c.in-Sot.ldu in
    rw c.in-Sot.is
    (subst (Adds c.args.line.now c.add_named-in-Sot.new.line 30) (sym (append_assoc unit (codes " gfi ") (decimal c.in-Sot.gfi)))
    (within 30 (c.add_unit-in-Sot.ensures ▹ c.add_named-in-Sot.ensures) (omega arith)))

pub returns-in-Part : goal.returns-in-Part
returns-in-Part c = rw c.in-Part.is (within 30 c.add_semis.ensures (omega arith))

pub returns-in-Eot : goal.returns-in-Eot
returns-in-Eot c =
    let final = rw c.is_final.ensures at c.add_final.ensures in
    rw c.in-Eot.is (c.add_named-in-Eot.ensures ▹ c.put-in-Eot.ensures ▹ c.put_hex-in-Eot.ensures ▹ final)
