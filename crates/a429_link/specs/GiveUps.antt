-- Files that are given up one after the other (profile).
use Rattle.std.specs.Prelude.{ℕ, ◌+◌, ◌≤◌}
use Rattle.a429_link.specs.Source.{IsIdle}
use Rattle.a429_link.specs.State.{State}

-- an idle source may give up so many files, one after the other: at most 127 since its last acknowledgement
abbrev pub MayGiveUp : State → ℕ → Type 0
MayGiveUp s files = IsIdle s.source.phase × (s.source.give_ups + files ≤ 127)
