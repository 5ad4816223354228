-- Where a part of a recording may end (profile).
use Rattle.std.specs.Prelude.{◌<◌, ◌≤◌, ◌+◌, ℕ, List, take}
use Rattle.a429_profile.specs.Profile.{Contents}
use Rattle.a429_record.specs.declared.entry.Entry.{Entry}
use Rattle.a429_cert.specs.Explained.{items_of}
use Rattle.a429_parts.specs.Cutting.{IsPlace}

-- a part that begins after `from` of these entries may end after n of them: it has at most `most` then, and the next `most` entries and one more say that the recording may be cut there
abbrev pub IsNearEnough : Contents → ℕ → List Entry → ℕ → ℕ → Type 0
IsNearEnough p most entries from n = (from < n) × (n ≤ from + most) × IsPlace p (items_of (take (n + most + 1) entries)) n

-- it may not end after the place `end`
abbrev pub HasNoneAfter : Contents → ℕ → List Entry → ℕ → ℕ → Type 0
HasNoneAfter p most entries from end = (n : ℕ) → IsNearEnough p most entries from n → n ≤ end

-- it may end after `end` of them, and not later
abbrev pub IsLastNear : Contents → ℕ → List Entry → ℕ → ℕ → Type 0
IsLastNear p most entries from end = IsNearEnough p most entries from end × HasNoneAfter p most entries from end

-- it may end nowhere
abbrev pub HasNoneNear : Contents → ℕ → List Entry → ℕ → Type 0
HasNoneNear p most entries from = (n : ℕ) → IsNearEnough p most entries from n → ⊥
