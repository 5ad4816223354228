-- How a file is cut into link data units (profile).
use Rattle.std.specs.Prelude.{ℕ, zero, suc, ◌-◌, ◌*◌, ◌/◌, ◌^◌, ◌≡◌, ◌≤◌, nat_le, if◌then◌else◌, true, false, List, [], ◌∷◌, length, take, drop}
use Rattle.a429_profile.specs.declared.codes.Codes.{Codes}
use Rattle.a429_profile.specs.Profile.{Contents}
use Rattle.a429_ldu.specs.Filling.{data_words}
use Rattle.a429_ldu.specs.CheckWord.{check_of}
use Rattle.a429_ldu.specs.Ldu.{LduValue, is_final}

-- the link data unit of bytes
abbrev pub unit_of : Contents → List ℕ → ℕ → LduValue
unit_of p bytes flags = record { gfi = 0; flags = flags; check = check_of p.check bytes; words = data_words p.codes bytes }

-- the largest whole number of bytes in the data words of a unit of so many words: two fewer, since a start and an end word are among them
abbrev pub room : ℕ → ℕ
room max_words = (max_words - 2) * 5 / 2

-- bytes in pieces of so many, the last of which may have fewer; at most as many pieces as the first number says
unfoldable pub pieces : ℕ → ℕ → List ℕ → List (List ℕ)
pieces zero size bytes = []
pieces (suc most) size bytes = if nat_le (length bytes) size then bytes ∷ [] else take size bytes ∷ pieces most size (drop size bytes)

-- each piece but the last has so many bytes, and the last has some, and no more
abbrev pub HaveSizes : ℕ → List (List ℕ) → Type 0
HaveSizes size [] = ⊥
HaveSizes size (piece ∷ []) = (1 ≤ length piece) × (length piece ≤ size)
HaveSizes size (piece ∷ next ∷ rest) = (length piece ≡ size) × HaveSizes size (next ∷ rest)

-- the flag that says that a file ends
abbrev pub final_flag : Codes → ℕ
final_flag c = 2 ^ (c.final_bit - 25)

-- the last unit has this flag, and no other unit has one
abbrev pub units_in : Contents → List (List ℕ) → List LduValue
units_in p [] = []
units_in p (piece ∷ []) = unit_of p piece (final_flag p.codes) ∷ []
units_in p (piece ∷ next ∷ rest) = unit_of p piece 0 ∷ units_in p (next ∷ rest)

-- the most link data units that a file has: 255 (profile). From a first number 0 or 1 on, each has a number below 256.
abbrev pub most_units : ℕ
most_units = 255

-- the link data units of a file
abbrev pub units_of : Contents → ℕ → List ℕ → List LduValue
units_of p max_words bytes = units_in p (pieces most_units (room max_words) bytes)

-- of some link data units the last is final, and no other
abbrev pub OnlyLastIsFinal : Codes → List LduValue → Type 0
OnlyLastIsFinal c [] = ⊥
OnlyLastIsFinal c (u ∷ []) = is_final c u.flags ≡ true
OnlyLastIsFinal c (u ∷ next ∷ rest) = (is_final c u.flags ≡ false) × OnlyLastIsFinal c (next ∷ rest)
