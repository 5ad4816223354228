use Rattle.std.proofs.Common.{arith, ◌<◌, length, get_or}
use Rattle.std.proofs.lemmas.Grind.{common_steps}
use Rattle.std.proofs.lemmas.Int.Digits.{digits_more}
use Rattle.std.specs.Char.{digit_value}
use Rattle.a429_commands.proofs.engines.part_list.digits_in.Goals as goal

pub digits-preserved : goal.digits-preserved
digits-preserved c =
    let i = c.digits.len in
    let text = c.args.text.now in
    let inside : i < length text = omega arith in
    let small : digit_value (get_or text i 0) < 10 = grind (arith, common_steps) in
    record { inside = omega arith; digits = digits_more 10 text i inside c.digits.invariant.digits small }
