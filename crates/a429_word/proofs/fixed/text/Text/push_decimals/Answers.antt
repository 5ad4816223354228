use Rattle.std.proofs.Common.{◌≡◌, ◌-◌, ◌+◌, ◌^◌, ap, ◌∙◌, sym, arith, ◌/◌}
use Rattle.a429_word.proofs.FixedDecimals.{numeral-moved, quotient-more}
use Rattle.a429_word.proofs.fixed.text.Text.push_decimals.Goals as goal

pub loop-left-preserved : goal.loop-left-preserved
loop-left-preserved c =
    let l = c.loop-left in
    let pushed = c.push_digits-rest.ensures in
    let before = l.left - 18 in
    let fewer : l.left ≡ before + 18 = omega arith in
    let more : c.args.count - before ≡ (c.args.count - l.left) + 18 = omega (arith, l.invariant.few) in
    record {
      few = omega (arith, l.invariant.few);
      text = rw (pushed.text, pushed.rest) (sym (numeral-moved before 18 l.left l.rest l.self fewer) ∙ l.invariant.text);
      rest = rw (pushed.rest, more) (ap (λ n. n / 10 ^ 18) l.invariant.rest ∙ quotient-more c.args.number (c.args.count - l.left) 18);
      len = omega (arith, pushed.len, l.invariant.len);
    }

pub returns-clause-text : goal.returns-clause-text
returns-clause-text c = c.push_digits.ensures.text ∙ c.loop-left.invariant.text

pub returns-clause-len : goal.returns-clause-len
returns-clause-len c = omega (arith, c.push_digits.ensures.len, c.loop-left.invariant.len)

pub returns-clause-rest : goal.returns-clause-rest
returns-clause-rest c =
    let l = c.loop-left in
    let all : (c.args.count - l.left) + l.left ≡ c.args.count = omega (arith, l.invariant.few) in
    c.push_digits.ensures.rest ∙ ap (λ n. n / 10 ^ l.left) l.invariant.rest ∙ quotient-more c.args.number (c.args.count - l.left) l.left
    ∙ ap (λ k. c.args.number / 10 ^ k) all
