use Rattle.std.proofs.Common.{get_or, arith}
use Rattle.a429_cert.proofs.FieldDigits.{digit-small, read-more, read-room, read-stops, read-all, read-small}
use Rattle.a429_cert.proofs.field.hex_digits_of.Goals as goal

pub returns-in_default-clause-value : goal.returns-in_default-clause-value
returns-in_default-clause-value c = read-stops c.loop-byte.byte-index c.args.text.now (omega arith) c.in_default.ensures

pub overflow_mul-number : goal.overflow_mul-number
overflow_mul-number c =
    let room = read-room c.loop-byte.byte-index c.loop-byte.number c.args.text.now (omega arith) c.requires c.loop-byte.invariant in
    omega arith

pub overflow_add-number : goal.overflow_add-number
overflow_add-number c =
    let room = read-room c.loop-byte.byte-index c.loop-byte.number c.args.text.now (omega arith) c.requires c.loop-byte.invariant in
    let small = digit-small (get_or c.args.text.now c.loop-byte.byte-index 0) c.in-Some.digit c.in-Some.ensures in
    omega arith

pub loop-byte-preserved : goal.loop-byte-preserved
loop-byte-preserved c =
    read-more c.loop-byte.byte-index c.loop-byte.number c.in-Some.digit c.args.text.now
    (omega arith) c.loop-byte.invariant c.in-Some.ensures

pub returns-clause-value : goal.returns-clause-value
returns-clause-value c = read-all c.loop-byte.byte-index c.loop-byte.number c.args.text.now (omega arith) c.loop-byte.invariant

pub returns-clause-small : goal.returns-clause-small
returns-clause-small c = read-small c.loop-byte.byte-index c.loop-byte.number c.args.text.now (omega arith) c.loop-byte.invariant
