-- Times as they are written (profile): digits and what they count, or a clock's.
use Rattle.std.specs.Prelude.{ℕ, ◌+◌, ◌*◌, ◌/◌, ◌%◌, ◌^◌, ◌≤◌, List, [], ◌++◌, length, take, drop, Bool, ◌&&◌, nat_le, not, ◌==◌, Option, Some, None, if◌then◌else◌}
use Rattle.std.specs.Str.Parse.{digits_value, AllDigits}
use Rattle.a429_record.specs.Row.{all_digits}
use Rattle.a429_import.specs.declared.time.Unit.{Unit}
use Rattle.a429_import.specs.declared.time.Unit.TheVariants as unit
use Rattle.a429_import.specs.declared.time.Reading.{Reading}

-- how many nanoseconds a unit has
abbrev pub nanoseconds : Unit → ℕ
nanoseconds unit.Second = 10 ^ 9
nanoseconds unit.Millisecond = 10 ^ 6
nanoseconds unit.Microsecond = 10 ^ 3
nanoseconds unit.Nanosecond = 1

-- the time that a number of units of so many nanoseconds is, whose digits after the point are the second text's: whole
-- microseconds, rounded down, and whether something was cut off
abbrev pub counted : ℕ → List ℕ → List ℕ → Reading
counted nanos whole part =
    let count = digits_value 10 (whole ++ part) * nanos in
    let microsecond = 10 ^ length part * 1000 in
    record { micros = count / microsecond; is_cut = not (count % microsecond == 0) }

-- at most 30 digits
pub record AreFewDigits (text : List ℕ) : Type 0 where
  pub few : length text ≤ 30
  pub digits : AllDigits 10 text

-- 1 to 30 digits
abbrev pub are_time_digits : List ℕ → Bool
are_time_digits text = nat_le 1 (length text) && nat_le (length text) 30 && all_digits 10 text

-- the time of a number without a point
abbrev pub whole_time : Unit → List ℕ → Option Reading
whole_time unit whole = if are_time_digits whole then Some (counted (nanoseconds unit) whole []) else None

-- and of one with digits before and after a point
abbrev pub time_with_part : Unit → List ℕ → List ℕ → Option Reading
time_with_part unit whole part = if are_time_digits whole && are_time_digits part then Some (counted (nanoseconds unit) whole part) else None

-- the time of a text whose first point is there, or that has none
abbrev pub time_cut : Unit → List ℕ → Option ℕ → Option Reading
time_cut unit text None = whole_time unit text
time_cut unit text (Some end) = time_with_part unit (take end text) (drop (end + 1) text)
