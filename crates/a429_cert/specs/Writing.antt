-- What a call that appends leaves of a vector (profile).
use Rattle.std.specs.Prelude.{◌≡◌, ◌+◌, ◌<◌, ◌≤◌, ℕ, List, ◌++◌, length, take, Result, OnOk, OnErr, Vec, vec_len, vec_capacity}

-- a list begins with another
abbrev pub IsFrontOf : List ℕ → List ℕ → Type 0
IsFrontOf front all = take (length front) all ≡ front

-- the text is appended, or there was no room for it, and some of it may be: what was there comes first, and no room is lost
abbrev pub AppendsOrFront : {X E Z : Type 0} → Result X E → Vec ℕ Z → Vec ℕ Z → List ℕ → Type 0
AppendsOrFront result old new text = OnOk result (new.items ≡ old.items ++ text) × OnErr result (vec_capacity old < vec_len old + length text) × (vec_capacity old ≤ vec_capacity new) × IsFrontOf old.items new.items
