-- Times in order (profile): a clock that begins again at 0, times that come late, and a clock that was set back.
use Rattle.std.specs.Prelude.{ℕ, ◌+◌, ◌-◌, ◌*◌, ◌^◌, ◌==◌, Bool, true, false, ◌&&◌, ◌||◌, not, nat_le, nat_lt, Option, Some, None, if◌then◌else◌}
use Rattle.a429_import.specs.declared.order.Clock.{Clock}
use Rattle.a429_import.specs.declared.order.Fall.TheVariants as fall
use Rattle.a429_import.specs.declared.order.Mend.{Mend}
use Rattle.a429_import.specs.declared.order.Moved.{Moved}
use Rattle.a429_import.specs.declared.order.Ordered.{Ordered}
use Rattle.a429_import.specs.declared.order.OrderRule.{OrderRule}

-- ---- a clock that begins again

-- a time is below the latest by more than half of what the clock counts to: it has begun again
abbrev pub has_wrapped_at : OrderRule → Clock → ℕ → Bool
has_wrapped_at r k t = not (r.wraps_at == 0) && (nat_lt t k.latest && nat_lt r.wraps_at (2 * (k.latest - t)))

-- after it has, a time that is below the latest by little where the clock had not: it is from before that, and comes late
abbrev pub is_late : OrderRule → Clock → ℕ → Bool
is_late r k t = k.has_wrapped && (nat_le r.wraps_at t && (nat_lt (t - r.wraps_at) k.latest && nat_le (k.latest - (t - r.wraps_at)) r.back))

-- the time that is meant, and what is added to the times that follow
abbrev pub moved : OrderRule → Clock → ℕ → Moved
moved r k t =
    if has_wrapped_at r k t then record { time = t + r.wraps_at; offset = k.offset + r.wraps_at; wraps = true }
    else if is_late r k t then record { time = t - r.wraps_at; offset = k.offset; wraps = false }
    else record { time = t; offset = k.offset; wraps = false }

abbrev pub in_64_bits : Moved → Option Moved
in_64_bits m = if nat_le (2 ^ 64) m.time then None else Some m

-- the time that is meant where so many microseconds are read, if it is none above 64 bits
abbrev pub meant : OrderRule → Clock → ℕ → Option Moved
meant r k micros = in_64_bits (moved r k (micros + k.offset))

-- ---- a time below the latest

-- the time of an entry that was read as so many microseconds, where it is put in order. A time that is below the latest by little is lifted to
-- that; by more, the clock was set back, where that may be: from then on so much is added that this time is the latest
abbrev pub settled : OrderRule → Clock → ℕ → Moved → Option Ordered
settled r k micros m =
    if nat_le k.latest m.time then Some (record { time = m.time; mend = record { wraps = m.wraps; fall = fall.None; offset = m.offset } })
    else if nat_le (k.latest - m.time) r.back then Some (record { time = k.latest; mend = record { wraps = m.wraps; fall = fall.Lifted (k.latest - m.time); offset = m.offset } })
    else if r.resets then Some (record { time = k.latest; mend = record { wraps = m.wraps; fall = fall.Reset (k.latest - m.time); offset = k.latest - micros } })
    else None

-- the clock after an entry of this time
abbrev pub clock_after : Clock → ℕ → Mend → Clock
clock_after k time m = record { offset = m.offset; has_wrapped = k.has_wrapped || m.wraps; latest = time }
