-- What `a429 show` writes (profile).
use Rattle.std.specs.Prelude.{◌≡◌, ℕ, List}
use Rattle.a429_profile.specs.Profile.{Contents}
use Rattle.a429_record.specs.declared.entry.Entry.{Entry}
use Rattle.a429_view.specs.Show.{AreShowLines}

-- with status 0, the lines of all entries
abbrev pub Shows : Contents → List Entry → ℕ → List ℕ → Type 0
Shows p es status text = (status ≡ 0) × AreShowLines p es text
