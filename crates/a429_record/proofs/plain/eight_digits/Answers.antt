use Rattle.std.proofs.Common.{arith, ◌≤◌, length}
use Rattle.std.proofs.lemmas.Bool.{and_parts}
use Rattle.a429_record.proofs.PlainFacts.{eight}
use Rattle.a429_record.proofs.plain.eight_digits.Goals as goal

pub returns-clause-digits : goal.returns-clause-digits
returns-clause-digits c =
    let xs = c.args.bytes.now in
    let long : 8 ≤ length xs = omega arith in
    let (first, second) = and_parts c.are_digits-high.result c.are_digits-low.result c.if-not-high-low.false in
    let high = c.are_digits-high.ensures.0 first in
    rw (eight xs long) (high.0, (high.1.0, (high.1.1.0, (high.1.1.1.0, c.are_digits-low.ensures.0 second))))

pub returns-clause-number : goal.returns-clause-number
returns-clause-number c =
    rw (eight c.args.bytes.now (omega arith)) (omega (arith, c.number_of_four-thousands.ensures.value, c.number_of_four.ensures.value))
