use Rattle.std.proofs.Common.{◌≡◌, ◌+◌, ◌-◌, is_some, true, sym, ap, length, take, drop}
use Rattle.a429_import.specs.ClockTime.{sixtieth}
use Rattle.a429_import.proofs.ClockTimeFacts.{parts_below}
use Rattle.a429_import.proofs.clock_time.seconds_in.Goals as goal

pub returns-in_ok-sixtieth-in-Some-clause-below : goal.returns-in_ok-sixtieth-in-Some-clause-below
returns-in_ok-sixtieth-in-Some-clause-below c =
    let text = c.args.text.now in
    let end = c.in-Some.end in
    let some : is_some (sixtieth (take end text)) ≡ true = ap is_some (sym c.in_ok-sixtieth-in-Some.ensures) in
    rw c.time_with_part.ensures (parts_below (take end text) (take (length text - (end + 1)) (drop (end + 1) text)) some)
