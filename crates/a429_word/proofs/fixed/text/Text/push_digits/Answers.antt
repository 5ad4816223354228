use Rattle.std.proofs.Common.{◌+◌, ap, ◌∙◌, sym, arith, ◌%◌, ◌++◌, length, length-append, length-drop, rules}
use Rattle.std.specs.Fmt.{decimal}
use Rattle.a429_word.specs.Digits.{numeral}
use Rattle.a429_word.proofs.FixedDecimals.{numeral-none, length-numeral, one_and_part, behind_one}
use Rattle.a429_word.proofs.fixed.text.Text.push_digits.Goals as goal

pub returns-then-count-eq0-clause-text : goal.returns-then-count-eq0-clause-text
returns-then-count-eq0-clause-text c = numeral-none c.args.count c.args.number c.args.self.now c.if-count-eq0.true

pub overflow_add-one : goal.overflow_add-one
overflow_add-one c = omega (
  arith,
  (one_and_part c.args.count c.args.number c.power_of_ten-one.result c.over_power_of_ten-whole.result.1 c.requires.few
      c.power_of_ten-one.ensures
      (c.over_power_of_ten-whole.ensures.remainder ∙ ap (λ p. c.args.number % p) (sym c.power_of_ten-one.ensures))).1,
)

pub write_digits-requires : goal.write_digits-requires
write_digits-requires c =
    let one =
    one_and_part c.args.count c.args.number c.power_of_ten-one.result c.over_power_of_ten-whole.result.1 c.requires.few
    c.power_of_ten-one.ensures
    (c.over_power_of_ten-whole.ensures.remainder ∙ ap (λ p. c.args.number % p) (sym c.power_of_ten-one.ensures)) in (
      omega (
        arith,
        ap length one.0,
        length-numeral c.args.count c.args.number,
        ap length c.self.view_is,
        length-drop c.self.inside.start c.self.inside.bytes,
        c.requires.room,
      ),
      search rules,
    )

pub invariant_of-self : goal.invariant_of-self
invariant_of-self c =
    let one =
    one_and_part c.args.count c.args.number c.power_of_ten-one.result c.over_power_of_ten-whole.result.1 c.requires.few
    c.power_of_ten-one.ensures
    (c.over_power_of_ten-whole.ensures.remainder ∙ ap (λ p. c.args.number % p) (sym c.power_of_ten-one.ensures)) in
    omega (arith, ap length one.0, length-numeral c.args.count c.args.number, c.write_digits.ensures.start, c.self.invariant)

pub returns-clause-text : goal.returns-clause-text
returns-clause-text c =
    let one =
    one_and_part c.args.count c.args.number c.power_of_ten-one.result c.over_power_of_ten-whole.result.1 c.requires.few
    c.power_of_ten-one.ensures
    (c.over_power_of_ten-whole.ensures.remainder ∙ ap (λ p. c.args.number % p) (sym c.power_of_ten-one.ensures)) in
    let written =
    c.write_digits.ensures.written ∙ ap (λ t. decimal (c.power_of_ten-one.result + c.over_power_of_ten-whole.result.1) ++ t) c.self.view_is
    ∙ ap (λ t. t ++ c.args.self.now) one.0 in
    behind_one c.write_digits.new.buf (numeral 10 c.args.count c.args.number) c.args.self.now c.write_digits.result written

pub returns-clause-len : goal.returns-clause-len
returns-clause-len c =
    let text = returns-clause-text c in
    omega (
      arith,
      ap length text,
      length-append (numeral 10 c.args.count c.args.number) c.args.self.now,
      length-numeral c.args.count c.args.number,
    )
