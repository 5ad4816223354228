use Rattle.std.proofs.Common.{◌∙◌, sym, length}
use Rattle.a429_import.proofs.TimeFacts.{short_room}
use Rattle.a429_import.proofs.time.number_after.Goals as goal

pub short_number_after-requires-clause-room : goal.short_number_after-requires-clause-room
short_number_after-requires-clause-room c =
    short_room c.args.before (length c.args.digits.now) (sym c.is_short.ensures ∙ c.if-is_short.true)
