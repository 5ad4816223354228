use Rattle.std.proofs.Common.{◌∙◌, sym, ap, Some}
use Rattle.a429_import.proofs.ClockTimeFacts.{days_are}
use Rattle.a429_import.proofs.clock_time.day_of.Goals as goal

pub overflow_sub-result : goal.overflow_sub-result
overflow_sub-result c =
    (days_are c.args.year c.args.month c.args.day c.days_since_min.result
    (sym c.is_day.ensures ∙ c.if-not-is_day.false) c.days_since_min.ensures.value).0

pub returns : goal.returns
returns c =
    let day = sym c.is_day.ensures ∙ c.if-not-is_day.false in
    rw day (ap Some (days_are c.args.year c.args.month c.args.day c.days_since_min.result day c.days_since_min.ensures.value).1)
