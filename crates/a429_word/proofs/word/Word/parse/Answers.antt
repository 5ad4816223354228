use Rattle.std.proofs.Common.{◌≡◌, ◌<◌, arith, length}
use Rattle.a429_word.proofs.DigitsFacts.{eight_hex, eight_halves}
use Rattle.a429_word.proofs.word.Word.parse.Goals as goal

pub returns-clause-some : goal.returns-clause-some
returns-clause-some c =
    let long : length c.args.text.now ≡ 8 = omega arith in
    let high : c.number_of_four-upper.result < 65536 = omega arith in
    let low : c.number_of_four-lower.result < 65536 = omega arith in
    let upper = c.number_of_four-upper.ensures.value high in
    let lower = c.number_of_four-lower.ensures.value low in
    eight_hex c.args.letters c.args.text.now c.from_u32.result long (c.number_of_four-upper.ensures.digits.0 high)
    (c.number_of_four-lower.ensures.digits.0 low) (omega (arith, upper, lower))

pub returns-then-upper-ge-NONE-clause-none : goal.returns-then-upper-ge-NONE-clause-none
returns-then-upper-ge-NONE-clause-none c h =
    let halves = eight_halves c.args.letters c.args.text.now h.0 h.1 in
    let high = c.number_of_four-upper.ensures.digits.1 halves.0 in
    let low = c.number_of_four-lower.ensures.digits.1 halves.1 in
    grind (arith, high, low, c.then-upper-ge-NONE.either)
