use Rattle.std.proofs.Common.{sym}
use Rattle.itoa.proofs.Decimal.{length_one, length_two}
use Rattle.a429_view.proofs.DigitCounts.{length_three, length_at_four}
use Rattle.a429_view.proofs.line.shortest_digit_count.Goals as goal

pub returns-then-number-lt10-clause-value : goal.returns-then-number-lt10-clause-value
returns-then-number-lt10-clause-value c = sym (length_one c.args.number c.if-number-lt10.true)

pub returns-then-number-lt100-clause-value : goal.returns-then-number-lt100-clause-value
returns-then-number-lt100-clause-value c = sym (length_two c.args.number c.if-number-lt10.false c.if-number-lt100.true)

pub returns-then-number-lt1000-clause-value : goal.returns-then-number-lt1000-clause-value
returns-then-number-lt1000-clause-value c = sym (length_three c.args.number c.if-number-lt100.false c.if-number-lt1000.true)

pub returns-else-number-lt1000-clause-value : goal.returns-else-number-lt1000-clause-value
returns-else-number-lt1000-clause-value c = sym (length_at_four c.args.number c.if-number-lt1000.false c.requires)
