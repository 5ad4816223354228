-- The room of a page (profile).
use Rattle.std.specs.Prelude.{ℕ, List, [], Option, Some, None, Vec}

-- its bytes; none where each piece is written at once
abbrev pub room_of : {Z : Type 0} → Option (Vec ℕ Z) → List ℕ
room_of None = []
room_of (Some bytes) = bytes.items
