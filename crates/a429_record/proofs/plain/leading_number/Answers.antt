use Rattle.std.proofs.Common.{arith, sym, ◌<◌, length, get_or}
use Rattle.std.proofs.lemmas.Grind.{common_steps}
use Rattle.std.specs.Char.{digit_value}
use Rattle.std.proofs.lemmas.Int.Digits.{digits_value_more, digits_more}
use Rattle.a429_record.proofs.RowDigits.{room}
use Rattle.a429_record.proofs.plain.leading_number.Goals as goal

pub overflow_mul-number : goal.overflow_mul-number
overflow_mul-number c =
    omega (
      arith,
      room c.digits.len c.digits.number c.args.bytes.now (omega arith) (omega arith) c.digits.invariant.number c.digits.invariant.digits,
    )

pub overflow_add-number : goal.overflow_add-number
overflow_add-number c =
    let small : digit_value (get_or c.args.bytes.now c.digits.len 0) < 10 = grind (arith, common_steps) in
    omega (
      arith,
      room c.digits.len c.digits.number c.args.bytes.now (omega arith) (omega arith) c.digits.invariant.number c.digits.invariant.digits,
    )

pub digits-preserved : goal.digits-preserved
digits-preserved c =
    let i = c.digits.len in
    let text = c.args.bytes.now in
    let inside : i < length text = omega arith in
    let small : digit_value (get_or text i 0) < 10 = grind (arith, common_steps) in
    record {
      inside = omega arith;
      few = omega arith;
      digits = digits_more 10 text i inside c.digits.invariant.digits small;
      number = rw (c.digit_of.ensures, c.digits.invariant.number) (sym (digits_value_more 10 text i inside));
    }
