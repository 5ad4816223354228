-- What is known of the entries so far (profile).
use Rattle.std.specs.Prelude.{[], false}
use Rattle.a429_record.specs.declared.entry.Entry.{Entry}
use Rattle.a429_import.specs.declared.order.Mend.{Mend}
use Rattle.a429_import.specs.declared.past.Past.{Past}
use Rattle.a429_import.specs.declared.repeats.RepeatRule.{RepeatRule}
use Rattle.a429_import.specs.Order.{clock_after}
use Rattle.a429_import.specs.Repeats.{as_compared, last_with}

abbrev pub no_past : Past
no_past = record { clock = record { offset = 0; has_wrapped = false; latest = 0 }; last = [] }

-- after one more entry, which was put in order so
abbrev pub past_with : RepeatRule → Past → Entry → Mend → Past
past_with r p e m = record { clock = clock_after p.clock e.time m; last = last_with r p.last (as_compared e m.fall) }
