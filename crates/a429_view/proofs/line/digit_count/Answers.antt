use Rattle.std.proofs.Common.{◌∙◌, ◌+◌, ap, sym, arith}
use Rattle.a429_view.proofs.DigitCounts.{length_eight, length_sixteen}
use Rattle.a429_view.proofs.line.digit_count.Goals as goal

pub returns-then-number-lt10000000000000000 : goal.returns-then-number-lt10000000000000000
returns-then-number-lt10000000000000000 c =
    ap (λ k. k + 8) c.short_digit_count-then-number-lt10000000000000000.ensures.value
    ∙ sym (length_eight c.args.number c.if-number-lt100000000.false (omega arith))

pub returns-else-number-lt10000000000000000 : goal.returns-else-number-lt10000000000000000
returns-else-number-lt10000000000000000 c =
    ap (λ k. k + 16) c.short_digit_count-else-number-lt10000000000000000.ensures.value
    ∙ sym (length_sixteen c.args.number c.if-number-lt10000000000000000.false (omega arith))
