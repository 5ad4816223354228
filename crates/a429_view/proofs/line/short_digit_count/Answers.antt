use Rattle.std.proofs.Common.{◌∙◌, ◌+◌, ap, sym, arith}
use Rattle.itoa.proofs.Decimal.{length_four}
use Rattle.a429_view.proofs.line.short_digit_count.Goals as goal

pub returns-else-number-lt10000-clause-value : goal.returns-else-number-lt10000-clause-value
returns-else-number-lt10000-clause-value c = ap (λ k. k + 4) c.shortest_digit_count-else-number-lt10000.ensures.value
    ∙ sym (length_four c.args.number c.if-number-lt10000.false (omega arith))
