use Rattle.std.proofs.Common.{◌+◌, ◌-◌, length, take, drop}
use Rattle.std.proofs.lemmas.List.{take_rest}
use Rattle.a429_import.proofs.ClockTimeFacts.{time_read}
use Rattle.a429_import.proofs.clock_time.time_on.Goals as goal

pub returns : goal.returns
returns c =
    let text = c.args.text.now in
    let i = c.in_ok-hour_end.hour_end in
    let j = c.in_ok-minute_end.minute_end in
    let rest = take (length text - (i + 1)) (drop (i + 1) text) in
    let last = take (length rest - (j + 1)) (drop (j + 1) rest) in
    time_read c.args.day c.args.half c.args.point i j text rest last c.hour_in.result c.sixtieth.result c.seconds_in.result c.time_at.result
    c.in_ok-hour_end.ensures.first
    (take_rest text (i + 1)) c.in_ok-minute_end.ensures.first
    (take_rest rest (j + 1)) c.hour_in.ensures c.sixtieth.ensures c.seconds_in.ensures.reading c.time_at.ensures
