use Rattle.std.proofs.Common.{◌<◌, ◌∙◌, arith, length}
use Rattle.a429_import.proofs.TimeFacts.{digit_in, next_digit, room_now, room_after}
use Rattle.a429_import.proofs.time.short_number_after.Goals as goal

pub overflow_mul-number : goal.overflow_mul-number
overflow_mul-number c =
    let inside : c.digits.byte-index < length c.args.digits.now = omega arith in
    omega (arith, room_now c.digits.number (length c.args.digits.now) c.digits.byte-index _ inside c.digits.invariant.room, c.requires.room)

pub digit_of-requires : goal.digit_of-requires
digit_of-requires c = digit_in c.args.digits.now c.digits.byte-index (omega arith) c.requires.digits

pub overflow_add-number : goal.overflow_add-number
overflow_add-number c =
    let inside : c.digits.byte-index < length c.args.digits.now = omega arith in
    omega (
      arith,
      room_now c.digits.number (length c.args.digits.now) c.digits.byte-index _ inside c.digits.invariant.room,
      c.requires.room,
      digit_in c.args.digits.now c.digits.byte-index inside c.requires.digits,
    )

pub digits-preserved : goal.digits-preserved
digits-preserved c =
    let inside : c.digits.byte-index < length c.args.digits.now = omega arith in
    let value = c.from.ensures ∙ c.digit_of.ensures in
    let small = digit_in c.args.digits.now c.digits.byte-index inside c.requires.digits in
    record {
      number =
          next_digit c.args.before c.digits.number c.args.digits.now c.digits.byte-index c.from.result inside c.digits.invariant.number
          value;
      room =
          room_after c.digits.number c.from.result (length c.args.digits.now) c.digits.byte-index _ inside
          (rw value small) c.digits.invariant.room;
    }
