-- A line on its way to a sheet of output (profile).
use Rattle.std.specs.Prelude.{◌≡◌, ◌≤◌, ◌+◌, ℕ, List, ◌++◌, length}

-- so many more bytes fit on it
abbrev pub Fits : List ℕ → ℕ → Type 0
Fits line count = length line + count ≤ 192

-- a text was added to it, of so many bytes at most
pub record Adds (old new : List ℕ) (count : ℕ) (text : List ℕ) : Type 0 where
  pub added : new ≡ old ++ text
  pub most : length new ≤ length old + count
