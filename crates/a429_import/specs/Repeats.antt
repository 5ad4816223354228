-- Entries that an export has again (profile).
use Rattle.std.specs.Prelude.{ℕ, ◌-◌, List, ◌∷◌, take, Bool, true, false, ◌&&◌, ◌==◌, nat_le}
use Rattle.std.specs.List.{list_any}
use Rattle.a429_word.specs.declared.bus.Bus.{Bus}
use Rattle.a429_word.specs.declared.bus.Bus.TheVariants as bus
use Rattle.a429_record.specs.declared.entry.Entry.{Entry}
use Rattle.a429_import.specs.declared.order.Fall.{Fall}
use Rattle.a429_import.specs.declared.order.Fall.TheVariants as fall
use Rattle.a429_import.specs.declared.repeats.RepeatRule.{RepeatRule}

-- two times differ by at most so much
abbrev pub are_near : ℕ → ℕ → ℕ → Bool
are_near most a b = nat_le (a - b) most && nat_le (b - a) most

abbrev pub is_same_line : Bus → Bus → Bool
is_same_line bus.A bus.A = true
is_same_line bus.A bus.B = false
is_same_line bus.B bus.A = false
is_same_line bus.B bus.B = true

-- an entry is another one again: it is on the same line, with the same word, at nearly the same time
abbrev pub is_again : ℕ → Entry → Entry → Bool
is_again within e other = is_same_line e.bus other.bus && ((e.word == other.word) && are_near within e.time other.time)

-- one of the entries that were written last
abbrev pub is_repeat : ℕ → List Entry → Entry → Bool
is_repeat within last e = list_any (is_again within e) last

-- the time that an entry had before it was lifted
abbrev pub time_before : ℕ → Fall → ℕ
time_before time (fall.Lifted by) = time - by
time_before time _ = time

abbrev pub as_compared : Entry → Fall → Entry
as_compared e f = record { time = time_before e.time f; bus = e.bus; word = e.word }

-- the last entries that were written, the latest first, so many of them at most, after one more
abbrev pub last_with : RepeatRule → List Entry → Entry → List Entry
last_with r last e = take r.among (e ∷ last)
