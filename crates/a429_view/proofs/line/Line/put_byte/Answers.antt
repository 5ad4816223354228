use Rattle.std.proofs.Common.{arith}
use Rattle.std.proofs.lemmas.Fmt.{decimal_digit}
use Rattle.itoa.proofs.Decimal.{decimal_two}
use Rattle.a429_view.proofs.DigitCounts.{decimal_three}
use Rattle.a429_view.proofs.LineFacts.{within}
use Rattle.a429_view.proofs.line.Line.put_byte.Goals as goal

pub returns-then-number-lt10 : goal.returns-then-number-lt10
returns-then-number-lt10 c = rw (decimal_digit c.args.number c.if-number-lt10.true) (within 3 c.put.ensures (omega arith))

pub returns-then-number-lt100 : goal.returns-then-number-lt100
returns-then-number-lt100 c =
    rw (decimal_two c.args.number c.if-number-lt10.false c.if-number-lt100.true) (within 3 c.put-then-number-lt100.ensures (omega arith))

pub returns-then-number-lt200 : goal.returns-then-number-lt200
returns-then-number-lt200 c =
    rw (decimal_three c.args.number 1 c.if-number-lt100.false c.if-number-lt200.true (omega arith) (omega arith))
    c.put-then-number-lt200.ensures

pub returns-else-number-lt200 : goal.returns-else-number-lt200
returns-else-number-lt200 c =
    rw (decimal_three c.args.number 2 c.if-number-lt200.false (omega arith) (omega arith) (omega arith)) c.put-else-number-lt200.ensures
