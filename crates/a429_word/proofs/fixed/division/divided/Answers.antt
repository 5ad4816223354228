use Rattle.a429_word.proofs.FixedZeros.{guess_is}
use Rattle.a429_word.proofs.fixed.division.divided.Goals as goal

pub returns-then-number-whole-clause-remainder : goal.returns-then-number-whole-clause-remainder
returns-then-number-whole-clause-remainder c =
    let whole = c.in-Some.ensures.1 in
    rw whole
    (guess_is c.args.number c.args.divisor c.args.guess (rw whole at c.if-whole-number.true) (rw whole at c.if-number-whole.true)).1
