use Rattle.std.proofs.Common.{◌<◌, arith, sym, length}
use Rattle.std.proofs.lemmas.Int.Digits.{digits_value_more, digits_more}
use Rattle.a429_record.proofs.RowDigits.{room, not_a_digit}
use Rattle.a429_record.proofs.row.number_of.Goals as goal

pub overflow_mul-number : goal.overflow_mul-number
overflow_mul-number c =
    omega (
      arith,
      room c.loop-digit.digit-index c.loop-digit.number c.args.digits.now (omega arith)
          (omega (arith, c.requires)) c.loop-digit.invariant.0 c.loop-digit.invariant.1,
    )

pub overflow_add-number : goal.overflow_add-number
overflow_add-number c =
    omega (
      arith,
      c.in_ok-number.ensures.some,
      room c.loop-digit.digit-index c.loop-digit.number c.args.digits.now (omega arith)
          (omega (arith, c.requires)) c.loop-digit.invariant.0 c.loop-digit.invariant.1,
    )

pub returns-in_err-number-clause-none : goal.returns-in_err-number-clause-none
returns-in_err-number-clause-none c =
    rw c.from_residual.ensures
    (λ all. not_a_digit c.args.digits.now c.loop-digit.digit-index (omega arith) c.in_err-number.ensures.none all)

pub loop-digit-preserved : goal.loop-digit-preserved
loop-digit-preserved c =
    let i = c.loop-digit.digit-index in
    let text = c.args.digits.now in
    let inside : i < length text = omega arith in
    let digit = c.in_ok-number.ensures.some in (
      rw (digit.1, c.loop-digit.invariant.0) (sym (digits_value_more 10 text i inside)),
      digits_more 10 text i inside c.loop-digit.invariant.1 (rw (← digit.1) digit.0),
    )
