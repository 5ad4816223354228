use Rattle.std.proofs.Common.{length}
use Rattle.a429_import.proofs.TimeFacts.{first_room, thousandth-some, thousandth-none}
use Rattle.a429_import.proofs.time.thousandth.Goals as goal

pub number_after-number-requires-clause-room : goal.number_after-number-requires-clause-room
number_after-number-requires-clause-room c = first_room (length c.args.whole.now) c.requires.whole.few

pub returns-then-number-ne0 : goal.returns-then-number-ne0
returns-then-number-ne0 c =
    thousandth-some c.number_after-number.result c.args.whole.now c.args.part.now c.number_after-number.ensures.value c.requires.part.digits
    c.if-number-ne0.true

pub returns-else-number-ne0 : goal.returns-else-number-ne0
returns-else-number-ne0 c =
    thousandth-none c.number_after-number.result c.args.whole.now c.args.part.now c.is_above_zero.result c.number_after-number.ensures.value
    c.requires.part.digits c.if-number-ne0.false c.is_above_zero.ensures
