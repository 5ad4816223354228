-- How times are written (profile).
use Rattle.std.specs.Prelude.{ℕ, List, ◌==◌, Option}
use Rattle.std.specs.List.{position}
use Rattle.a429_import.specs.declared.time.Unit.{Unit}
use Rattle.a429_import.specs.declared.time.Reading.{Reading}
use Rattle.a429_import.specs.declared.time.TimeForm.{TimeForm}
use Rattle.a429_import.specs.declared.time.TimeForm.TheVariants as form
use Rattle.a429_import.specs.ClockTime.{clock_time}
use Rattle.a429_import.specs.Time.{time_cut, whole_time}

-- the time that a text writes
abbrev pub time_in : TimeForm → Unit → List ℕ → Option Reading
time_in form.Integer unit text = whole_time unit text
time_in (form.Decimal point) unit text = time_cut unit text (position (λ b. b == point) text)
time_in (form.Clock clock) unit text = clock_time clock text
