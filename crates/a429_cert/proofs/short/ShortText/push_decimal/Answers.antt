use Rattle.std.proofs.Common.{arith}
use Rattle.a429_cert.proofs.ShortFacts.{one_digit, two_digits, three_digits}
use Rattle.a429_cert.proofs.short.ShortText.push_decimal.Goals as goal

pub returns-then-number-lt10-clause-text : goal.returns-then-number-lt10-clause-text
returns-then-number-lt10-clause-text c =
    one_digit c.args.number c.args.self.now c.push.new.self c.if-number-lt10.true c.push.ensures.text

pub returns-then-number-lt100-clause-text : goal.returns-then-number-lt100-clause-text
returns-then-number-lt100-clause-text c =
    two_digits c.args.number c.args.self.now c.push_pair.new.self c.if-number-lt10.false c.if-number-lt100.true c.push_pair.ensures.text

pub returns-then-number-lt200-clause-text : goal.returns-then-number-lt200-clause-text
returns-then-number-lt200-clause-text c =
    three_digits c.args.number 1 c.args.self.now c.push-then-number-lt200.new.self c.push_pair-then-number-lt200.new.self (omega arith)
    (omega arith) (omega arith) (omega arith) c.push-then-number-lt200.ensures.text c.push_pair-then-number-lt200.ensures.text

pub returns-else-number-lt200-clause-text : goal.returns-else-number-lt200-clause-text
returns-else-number-lt200-clause-text c =
    three_digits c.args.number 2 c.args.self.now c.push-else-number-lt200.new.self c.push_pair-else-number-lt200.new.self (omega arith)
    (omega arith) (omega arith) (omega arith) c.push-else-number-lt200.ensures.text c.push_pair-else-number-lt200.ensures.text
