-- Numbers of a few digits, the seconds of a clock, and the days of the calendar.
use Rattle.std.proofs.Common.{◌≡◌, ℕ, ◌+◌, ◌-◌, ◌*◌, ◌^◌, ◌<◌, ◌≤◌, pos, ◌+ℤ◌, to_z, w16, arith, refl, ◌∙◌, take, drop, ◌==◌, Option, List, length, Bool, true, false, ◌&&◌, nat_le, if◌then◌else◌, is_some, Some, None, IfSome, mul-le-mul_right, inl, inr}
use Rattle.std.specs.List.{position}
use Rattle.std.specs.Str.Parse.{digits_value, AllDigits}
use Rattle.std.proofs.lemmas.Bool.{and_parts, cases_lt, leb-true}
use Rattle.std.proofs.lemmas.Int.{to_z_pos}
use Rattle.std.proofs.lemmas.Nat.{div_below}
use Rattle.std.proofs.lemmas.Int.Digits.{digits_value-lt}
use Rattle.jiff_core.specs.Calendar.{day_count, day_of_year, days_from_civil, days_in_month}
use Rattle.jiff_core.proofs.CalendarLemmas.{day_count-day_of_year, day_count-later_year, days_from_civil-day_count}
use Rattle.jiff_core.proofs.MarchLemmas.{day_count-early}
use Rattle.jiff_core.proofs.SignedLemmas.{signed_arith}
use Rattle.a429_record.specs.Row.{all_digits}
use Rattle.a429_record.proofs.RowDigits.{all_digits-to}
use Rattle.a429_word.proofs.Powers.{pow-10_pos}
use Rattle.a429_word.proofs.FixedOneSpelling.{value-append}
use Rattle.a429_import.specs.declared.time.Reading.{Reading}
use Rattle.a429_import.specs.declared.time.Unit.TheVariants as unit
use Rattle.a429_import.specs.declared.clock_time.Half.{Half}
use Rattle.a429_import.specs.ClockTime.{days_before, hour_in, is_day, seconds_in, sixtieth, time_at, time_on, within}
use Rattle.a429_import.specs.Time.{are_time_digits, counted, time_with_part, AreFewDigits}
use Rattle.a429_import.proofs.TimeFacts.{time_digits}

pub few_digits : (text : List ℕ) → length text ≤ 4 → all_digits 10 text ≡ true → AreFewDigits text
few_digits text few h = record { few = omega (arith, few); digits = all_digits-to 10 text h }

-- ---- a second is below 60, so that all of its microseconds are below those of a minute

kept : (b : Bool) (n : ℕ) → is_some (if b then Some n else None) ≡ true → b ≡ true
kept true n h = refl
kept false n h = cc h

below_60 : (b : Bool) (n : ℕ) → is_some (within 0 59 (if b then Some n else None)) ≡ true → n ≤ 59
below_60 true n h = leb-true n 59 (and_parts (nat_le 0 n) (nat_le n 59) (kept (nat_le 0 n && nat_le n 59) n h)).1
below_60 false n h = cc h

some_second : (text : List ℕ) → is_some (sixtieth text) ≡ true → digits_value 10 text ≤ 59
some_second text h = below_60 (nat_le 2 (length text) && nat_le (length text) 2 && all_digits 10 text) (digits_value 10 text) h

below_minute : (v p b : ℕ) → v ≤ 59 → b < p → (v * p + b) * 10 ^ 9 < 60000000 * (p * 1000)
below_minute v p b h less =
    let step = mul-le-mul_right p h in
    omega (arith, step, less)

seconds_below : (whole part : List ℕ) → AllDigits 10 part → digits_value 10 whole ≤ 59 → (counted (10 ^ 9) whole part).micros < 60000000
seconds_below whole part all h =
    let p = 10 ^ length part in
    let some : 1 ≤ p * 1000 = omega (arith, pow-10_pos (length part)) in
    let less = below_minute (digits_value 10 whole) p (digits_value 10 part) h (digits_value-lt 10 part all) in
    rw (value-append whole part) (div_below ((digits_value 10 whole * p + digits_value 10 part) * 10 ^ 9) (p * 1000) 60000000 some less)

if_read : (b : Bool) (r : Reading) → (b ≡ true → r.micros < 60000000) → IfSome (if b then Some r else None) (λ r. r.micros < 60000000)
if_read true r h = h refl
if_read false r h = tt

pub parts_below : (whole part : List ℕ)
    → is_some (sixtieth whole) ≡ true → IfSome (time_with_part unit.Second whole part) (λ r. r.micros < 60000000)
parts_below whole part h =
    if_read (are_time_digits whole && are_time_digits part) (counted (10 ^ 9) whole part)
    (λ e.
    seconds_below whole part (time_digits part (and_parts (are_time_digits whole) (are_time_digits part) e).1).digits (some_second whole h))

-- ---- the hour, the minute and the second

pub time_read : (day : ℕ) (half : Option Half) (point i j : ℕ) (text rest last : List ℕ) (h m : Option ℕ) (s r : Option Reading)
    → Some i ≡ position (λ b. b == 58) text
    → rest ≡ drop (i + 1) text → Some j ≡ position (λ b. b == 58) rest → last ≡ drop (j + 1) rest → h ≡ hour_in half (take i text)
    → m ≡ sixtieth (take j rest)
    → s ≡ seconds_in point last → r ≡ time_at day h m s → r ≡ time_on day half point text
time_read day half point i j text rest last h m s r first after second over hour minute seconds is =
    let next : Some j ≡ position (λ b. b == 58) (drop (i + 1) text) = rw (← after) second in
    is ∙ rw (hour, minute, seconds, over, after, ← first, ← next) refl

-- ---- days from 1970 on

first_of_1970 : day_count (pos 1970) 1 1 ≡ 4371953
first_of_1970 = day_count-early (pos 1970) 11969 1 1 refl (omega arith) (omega arith) (omega arith)

year_after : (y : ℕ) → 1970 ≤ y → 4371953 ≤ day_count (pos y) 1 1
year_after y h = elim (cases_lt 1970 y) [
  | inl lt ↦
      omega (arith, first_of_1970, day_count-later_year (pos 1970) (pos y) (omega (arith, signed_arith)) (omega (arith, signed_arith)))
  | inr le ↦ let e : y ≡ 1970 = omega arith in rw e (omega (arith, first_of_1970))
]

-- counted from the calendar's first day, and from the first of 1970
days_since : (y m d r : ℕ)
    → 1970 ≤ y → 1 ≤ d → days_from_civil (pos y) m d +ℤ pos 4371587 ≡ pos r → (4371587 ≤ r) × (r - 4371587 ≡ days_before y m d)
days_since y m d r h k e =
    let count = days_from_civil-day_count (pos y) m d in
    let start = year_after y h in
    let place = day_count-day_of_year (pos y) m d k in
    let first = first_of_1970 in
    let some : d ≤ day_of_year (pos y) m d = omega arith in
    (omega (arith, signed_arith, count, e, start, place, first, some), omega (arith, signed_arith, count, e, start, place, first, some))

pub days_are : (y m d r : ℕ)
    → is_day y m d ≡ true → days_from_civil (to_z w16 y) m d +ℤ pos 4371587 ≡ pos r → (4371587 ≤ r) × (r - 4371587 ≡ days_before y m d)
days_are y m d r h e =
    let five =
    and_parts (nat_le 1970 y && nat_le y 9999 && nat_le 1 m && nat_le m 12 && nat_le 1 d) (nat_le d (days_in_month (pos y) m)) h in
    let four = and_parts (nat_le 1970 y && nat_le y 9999 && nat_le 1 m && nat_le m 12) (nat_le 1 d) five.0 in
    let three = and_parts (nat_le 1970 y && nat_le y 9999 && nat_le 1 m) (nat_le m 12) four.0 in
    let two = and_parts (nat_le 1970 y && nat_le y 9999) (nat_le 1 m) three.0 in
    let one = and_parts (nat_le 1970 y) (nat_le y 9999) two.0 in
    let most = leb-true y 9999 one.1 in
    let year = to_z_pos w16 y (omega (arith, most)) in
    days_since y m d r (leb-true 1970 y one.0) (leb-true 1 d four.1) (rw year at e)
