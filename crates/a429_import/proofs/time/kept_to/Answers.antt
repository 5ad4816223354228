use Rattle.std.proofs.Common.{◌≤◌, ◌+◌, ◌-◌, arith, length}
use Rattle.std.proofs.lemmas.List.{take_rest, length-take-le}
use Rattle.a429_record.proofs.RowDigits.{AllDigits-take}
use Rattle.a429_import.proofs.TimeFacts.{AllDigits-drop, first_room, second_room, third_room, kept_is}
use Rattle.a429_import.proofs.time.kept_to.Goals as goal

pub number_after-requires-clause-room : goal.number_after-requires-clause-room
number_after-requires-clause-room c = first_room (length c.args.whole.now) c.requires.whole.few

pub number_after-number-requires-clause-digits : goal.number_after-number-requires-clause-digits
number_after-number-requires-clause-digits c = AllDigits-take c.args.part.now c.min-kept.result c.requires.part.digits

pub number_after-number-requires-clause-room : goal.number_after-number-requires-clause-room
number_after-number-requires-clause-room c =
    let long = length-take-le c.min-kept.result c.args.part.now (omega (arith, c.min-kept.ensures)) in
    rw long
    (second_room c.number_after.result (length c.args.whole.now) c.min-kept.result c.number_after.ensures.below c.requires.whole.few
    (omega (arith, c.min-kept.ensures)))

pub overflow_mul-result : goal.overflow_mul-result
overflow_mul-result c =
    let long = length-take-le c.min-kept.result c.args.part.now (omega (arith, c.min-kept.ensures)) in
    let few : c.min-kept.result + (c.args.places - c.min-kept.result) ≤ 6 = omega (arith, c.min-kept.ensures) in
    let room =
    third_room c.number_after.result (length c.args.whole.now) c.min-kept.result (c.args.places - c.min-kept.result)
    c.number_after-number.result c.number_after.ensures.below c.requires.whole.few few (rw long at c.number_after-number.ensures.below) in
    rw c.power_of_ten.ensures (omega (arith, room))

pub is_above_zero-requires : goal.is_above_zero-requires
is_above_zero-requires c = rw take_rest (AllDigits-drop c.args.part.now c.min-kept.result c.requires.part.digits)

pub returns : goal.returns
returns c =
    rw c.power_of_ten.ensures
    (kept_is c.args.places c.min-kept.result c.number_after-number.result c.args.whole.now c.args.part.now c.is_above_zero.result
    c.min-kept.ensures
    (rw c.number_after.ensures.value at c.number_after-number.ensures.value) c.requires.part.digits
    (rw take_rest at c.is_above_zero.ensures))
