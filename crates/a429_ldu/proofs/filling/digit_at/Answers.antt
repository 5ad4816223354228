use Rattle.a429_ldu.proofs.FillingDigits.{low_digit, high_digit, no_digit}
use Rattle.a429_ldu.proofs.filling.digit_at.Goals as goal

pub returns-then-at-eq0-clause-value : goal.returns-then-at-eq0-clause-value
returns-then-at-eq0-clause-value c =
    let h = c.in-Some.ensures.lookup.3 in low_digit c.args.bytes.now c.args.at c.in-Some.byte.now c.if-at-eq0.true h.0 (h.1 0)

pub returns-else-at-eq0-clause-value : goal.returns-else-at-eq0-clause-value
returns-else-at-eq0-clause-value c =
    let h = c.in-Some.ensures.lookup.3 in high_digit c.args.bytes.now c.args.at c.in-Some.byte.now c.if-at-eq0.false h.0 (h.1 0)

pub returns-in-None-clause-value : goal.returns-in-None-clause-value
returns-in-None-clause-value c = no_digit c.args.bytes.now c.args.at c.in-None.ensures.lookup.3
