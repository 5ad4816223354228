use Rattle.std.proofs.Common.{◌∙◌, ◌%◌, ap}
use Rattle.a429_word.proofs.FixedZeros.{guess_is}
use Rattle.a429_word.proofs.fixed.division.divided_wide.Goals as goal

pub returns-then-number-whole-clause-remainder : goal.returns-then-number-whole-clause-remainder
returns-then-number-whole-clause-remainder c =
    (guess_is c.args.number c.from-wide.result c.from.result c.if-whole-number.true c.if-number-whole.true).1
    ∙ ap (λ d. c.args.number % d) c.from-wide.ensures
