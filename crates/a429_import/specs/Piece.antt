-- Fields cut into pieces (profile).
use Rattle.std.specs.Prelude.{ℕ, suc, ◌≤◌, ◌-◌, ◌==◌, List, [], ◌∷◌, slice_get, length, take, drop, bytes_eq, Option, Some, None, if◌then◌else◌}
use Rattle.a429_import.specs.declared.piece.Piece.{Piece}

-- a byte before the first of some pieces
abbrev pub before_first : ℕ → List (List ℕ) → List (List ℕ)
before_first c [] = (c ∷ []) ∷ []
before_first c (p ∷ ps) = (c ∷ p) ∷ ps

-- what a text is cut into at each of these bytes: one piece more than it has of them
abbrev pub pieces : ℕ → List ℕ → List (List ℕ)
pieces at [] = [] ∷ []
pieces at (c ∷ cs) = if c == at then [] ∷ pieces at cs else before_first c (pieces at cs)

-- where its pieces begin after the first, places being counted on from n
abbrev pub starts_from : ℕ → ℕ → List ℕ → List ℕ
starts_from at n [] = []
starts_from at n (c ∷ cs) = if c == at then suc n ∷ starts_from at (suc n) cs else starts_from at (suc n) cs

-- the pieces of a text of which the first begins at one place, the others at these; each ends before the byte before the next
abbrev pub pieces_from : List ℕ → ℕ → List ℕ → List (List ℕ)
pieces_from text start [] = drop start text ∷ []
pieces_from text start (next ∷ starts) = take (next - 1 - start) (drop start text) ∷ pieces_from text next starts

-- the piece of this number, from 1
abbrev pub piece_at : Piece → List ℕ → Option (List ℕ)
piece_at p field = slice_get (pieces p.at field) (p.number - 1)

-- pieces are counted from 1
abbrev pub IsPieceCounted : Option Piece → Type 0
IsPieceCounted None = Unit {0}
IsPieceCounted (Some p) = 1 ≤ p.number

-- a piece of a field, or all of it
abbrev pub cut_out : Option Piece → List ℕ → Option (List ℕ)
cut_out None field = Some field
cut_out (Some p) field = piece_at p field

-- what comes after a prefix
abbrev pub without_prefix : List ℕ → List ℕ → Option (List ℕ)
without_prefix prefix text = if bytes_eq (take (length prefix) text) prefix then Some (drop (length prefix) text) else None
