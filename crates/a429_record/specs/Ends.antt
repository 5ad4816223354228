-- Bytes of one line (profile).
use Rattle.std.specs.Prelude.{◌≡◌, ℕ, List, [], ◌∷◌, false, ◌==◌}

-- no byte is a line feed
abbrev pub HasNoEnd : List ℕ → Type 0
HasNoEnd [] = Unit {0}
HasNoEnd (b ∷ bs) = ((b == 10) ≡ false) × HasNoEnd bs
