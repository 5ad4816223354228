use Rattle.std.proofs.Common.{◌-◌, ◌∙◌, arith, length}
use Rattle.std.proofs.lemmas.List.{length-take-le}
use Rattle.a429_record.proofs.RowDigits.{not_front-time_in, front_above-time_in, sum-time_in}
use Rattle.a429_record.proofs.row.time_of.Goals as goal

pub returns-in_err-number_of : goal.returns-in_err-number_of
returns-in_err-number_of c =
    c.from_residual.ensures ∙ not_front-time_in c.args.text.now (length c.args.text.now - 1) c.in_err-number_of.ensures.none

pub returns-in_err-tens : goal.returns-in_err-tens
returns-in_err-tens c =
    c.from_residual-in_err-tens.ensures
    ∙ front_above-time_in c.args.text.now (length c.args.text.now - 1) c.in_ok-number_of.field-0
    (omega arith) c.in_ok-number_of.ensures.some.1 c.in_err-tens.ensures

pub returns : goal.returns
returns c =
    let digit = c.in_ok-digit_of.ensures.some in
    let front = length-take-le (length c.args.text.now - 1) c.args.text.now (omega arith) in
    sum-time_in c.args.text.now (length c.args.text.now - 1) c.in_ok-number_of.field-0 c.in_ok-digit_of.field-0 c.checked_add.result
    (omega arith) (omega (arith, front)) c.in_ok-number_of.ensures.some.0 c.in_ok-number_of.ensures.some.1 digit.0 digit.1
    (rw c.in_ok-tens.ensures.1 at c.checked_add.ensures)
