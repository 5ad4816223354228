-- Clock times (profile): a time of day, and the date before it.
use Rattle.std.specs.Prelude.{ℕ, ◌+◌, ◌-◌, ◌*◌, ◌%◌, List, [], ◌∷◌, length, take, drop, Bool, ◌&&◌, ◌||◌, ◌==◌, nat_le, Option, Some, None, is_some, option_map, pos, if◌then◌else◌}
use Rattle.std.specs.Char.{eq_ignore_ascii_case}
use Rattle.std.specs.List.{position}
use Rattle.std.specs.Str.Parse.{digits_value}
use Rattle.jiff_core.specs.Calendar.{days_in_month, day_count}
use Rattle.a429_record.specs.Row.{all_digits}
use Rattle.a429_import.specs.declared.clock_time.ClockForm.{ClockForm}
use Rattle.a429_import.specs.declared.clock_time.DateForm.{DateForm}
use Rattle.a429_import.specs.declared.clock_time.DateForm.TheVariants as form
use Rattle.a429_import.specs.declared.clock_time.DateOrder.{DateOrder}
use Rattle.a429_import.specs.declared.clock_time.DateOrder.TheVariants as order
use Rattle.a429_import.specs.declared.clock_time.Half.{Half}
use Rattle.a429_import.specs.declared.clock_time.Half.TheVariants as half
use Rattle.a429_import.specs.declared.time.Reading.{Reading}
use Rattle.a429_import.specs.declared.time.Unit.TheVariants as unit
use Rattle.a429_import.specs.Fields.{is_blank, without_first, without_last}
use Rattle.a429_import.specs.Time.{time_with_part, whole_time}

-- ---- texts that are cut, and numbers

-- what is there is read further
abbrev pub and_then : {A B : Type 0} → Option A → (A → Option B) → Option B
and_then None more = None
and_then (Some a) more = more a

-- a text is cut at the first byte that is so: what is before that, and what is after it, are read further
abbrev pub cut_at : {B : Type 0} → (ℕ → Bool) → List ℕ → (List ℕ → List ℕ → Option B) → Option B
cut_at is text more = and_then (position is text) (λ end. more (take end text) (drop (end + 1) text))

-- the number that so many decimal digits write, from the least to the most of them
abbrev pub number_of : ℕ → ℕ → List ℕ → Option ℕ
number_of least most text = if nat_le least (length text) && nat_le (length text) most && all_digits 10 text then Some (digits_value 10 text) else None

-- a number from the lowest to the highest
abbrev pub within : ℕ → ℕ → Option ℕ → Option ℕ
within low high None = None
within low high (Some n) = if nat_le low n && nat_le n high then Some n else None

-- ---- the time of day

-- a minute of an hour, or a second of a minute: two digits
abbrev pub sixtieth : List ℕ → Option ℕ
sixtieth text = within 0 59 (number_of 2 2 text)

-- a second, and perhaps the point and more digits
abbrev pub seconds_cut : List ℕ → Option ℕ → Option Reading
seconds_cut text None = if is_some (sixtieth text) then whole_time unit.Second text else None
seconds_cut text (Some end) = if is_some (sixtieth (take end text)) then time_with_part unit.Second (take end text) (drop (end + 1) text) else None

abbrev pub seconds_in : ℕ → List ℕ → Option Reading
seconds_in point text = seconds_cut text (position (λ b. b == point) text)

-- the hour of a day, from 0, that is this hour of a half of it; each half begins with hour 12
abbrev pub hour_of : Half → ℕ → ℕ
hour_of half.Morning h = h % 12
hour_of half.Afternoon h = h % 12 + 12

-- an hour has one digit or two
abbrev pub hour_in : Option Half → List ℕ → Option ℕ
hour_in None text = within 0 23 (number_of 1 2 text)
hour_in (Some half) text = option_map (hour_of half) (within 1 12 (number_of 1 2 text))

-- the time at an hour, a minute and a second of a day, days being counted from 0
abbrev pub time_at : ℕ → Option ℕ → Option ℕ → Option Reading → Option Reading
time_at day (Some hour) (Some minute) (Some second) =
    Some (record { micros = ((day * 24 + hour) * 60 + minute) * 60000000 + second.micros; is_cut = second.is_cut })
time_at day _ _ _ = None

-- the time that a text is on a day: the hour, the minute and the second, with colons between them
abbrev pub time_on : ℕ → Option Half → ℕ → List ℕ → Option Reading
time_on day half point text =
    cut_at (λ b. b == 58) text (λ hour rest.
    cut_at (λ b. b == 58) rest (λ minute second. time_at day (hour_in half hour) (sixtieth minute) (seconds_in point second)))

-- ---- the date

-- the calendar has this day, from 1970 to 9999
abbrev pub is_day : ℕ → ℕ → ℕ → Bool
is_day year month day =
    nat_le 1970 year && nat_le year 9999 && nat_le 1 month && nat_le month 12 && nat_le 1 day && nat_le day (days_in_month (pos year) month)

-- how many days come before it, from the first of 1970 on
abbrev pub days_before : ℕ → ℕ → ℕ → ℕ
days_before year month day = day_count (pos year) month day - day_count (pos 1970) 1 1

abbrev pub day_of : Option ℕ → Option ℕ → Option ℕ → Option ℕ
day_of (Some year) (Some month) (Some day) = if is_day year month day then Some (days_before year month day) else None
day_of _ _ _ = None

-- the day of a year, a month and a day
abbrev pub day_in : List ℕ → List ℕ → List ℕ → Option ℕ
day_in year month day = day_of (number_of 4 4 year) (number_of 1 2 month) (number_of 1 2 day)

abbrev pub in_order : DateOrder → List ℕ → List ℕ → List ℕ → Option ℕ
in_order order.MonthDayYear a b c = day_in c a b
in_order order.DayMonthYear a b c = day_in c b a
in_order order.YearMonthDay a b c = day_in a b c

-- three numbers, with one of these between each two: `/`, `-`, `.`
abbrev pub is_date_mark : ℕ → Bool
is_date_mark b = (b == 47) || ((b == 45) || (b == 46))

abbrev pub date_in : DateOrder → List ℕ → Option ℕ
date_in order text = cut_at is_date_mark text (λ a rest. cut_at is_date_mark rest (λ b c. in_order order a b c))

-- after it come blanks, or a `T`
abbrev pub is_date_end : ℕ → Bool
is_date_end b = is_blank b || (b == 84)

abbrev pub after_date : List ℕ → List ℕ
after_date [] = []
after_date (b ∷ bs) = if b == 84 then bs else without_first is_blank (b ∷ bs)

-- the days of a year that come before the one with this number
abbrev pub day_of_year_in : List ℕ → Option ℕ
day_of_year_in text = option_map (λ n. n - 1) (within 1 366 (number_of 1 3 text))

-- after it comes a colon, a `/` or a blank
abbrev pub is_day_end : ℕ → Bool
is_day_end b = (b == 58) || ((b == 47) || is_blank b)

-- the time that a text is: a time of day, and what is before it
abbrev pub dated_time : DateForm → Option Half → ℕ → List ℕ → Option Reading
dated_time form.None half point text = time_on 0 half point text
dated_time (form.Calendar order) half point text =
    and_then (position is_date_end text) (λ end. and_then (date_in order (take end text)) (λ day. time_on day half point (after_date (drop end text))))
dated_time form.DayOfYear half point text = cut_at is_day_end text (λ number rest. and_then (day_of_year_in number) (λ day. time_on day half point rest))

-- ---- a half of a day, at the end

abbrev pub half_named : ℕ → ℕ → Option Half
half_named a m =
    if eq_ignore_ascii_case m 77
    then (if eq_ignore_ascii_case a 65 then Some half.Morning else if eq_ignore_ascii_case a 80 then Some half.Afternoon else None)
    else None

abbrev pub half_in : List ℕ → Option Half
half_in (a ∷ m ∷ []) = half_named a m
half_in _ = None

-- the time of a text that ends with `AM` or `PM`, of either case, perhaps after blanks
abbrev pub half_day_time : ClockForm → List ℕ → Option Reading
half_day_time c text =
    and_then (half_in (drop (length text - 2) text)) (λ half. dated_time c.date (Some half) c.point (without_last is_blank (take (length text - 2) text)))

-- the time that a text writes
abbrev pub clock_time : ClockForm → List ℕ → Option Reading
clock_time c text = if c.half_days then half_day_time c text else dated_time c.date None c.point text
