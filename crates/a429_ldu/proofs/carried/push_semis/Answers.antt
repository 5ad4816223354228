use Rattle.std.proofs.Common.{ap, length, take, length-take, arith}
use Rattle.a429_ldu.proofs.CarriedFacts.{kept_count}
use Rattle.a429_ldu.proofs.carried.push_semis.Goals as goal

pub push_digit-waiting-requires-clause-room : goal.push_digit-waiting-requires-clause-room
push_digit-waiting-requires-clause-room c =
    let count =
    kept_count c.args.bytes.now.items c.loop-digit.bytes.items
    (take c.loop-digit.digit-index c.args.semis.now) c.args.low c.loop-digit.waiting c.loop-digit.invariant.bytes in
    let most = c.as_slice-digits.ensures.sound.1 in
    let same = ap length c.as_slice-digits.ensures.value in
    omega (arith, length-take c.loop-digit.digit-index c.args.semis.now, c.loop-digit-test.true)

pub returns-clause-most : goal.returns-clause-most
returns-clause-most c =
    let count =
    kept_count c.args.bytes.now.items c.loop-digit.bytes.items
    (take c.loop-digit.digit-index c.args.semis.now) c.args.low c.loop-digit.waiting c.loop-digit.invariant.bytes in
    let most = c.as_slice-digits.ensures.sound.1 in
    omega (arith, length-take c.loop-digit.digit-index c.args.semis.now)
