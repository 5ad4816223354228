-- What takes the pieces of a recording (profile).
use Rattle.std.specs.Prelude.{ℕ, ◌≡◌, ◌+◌, List, [], ◌∷◌, ◌++◌, length, map, Option, Some, None, ⊤}
use Rattle.a429_link.specs.declared.file.FileBytes.{FileBytes}
use Rattle.a429_record.specs.declared.entry.Entry.{Entry}
use Rattle.a429_sink.specs.declared.stopping_trace.Stop.{Stop}
use Rattle.a429_sink.specs.History.{Told}

-- a piece, and what is said of it; where it stops, with the word
pub record SaidPiece : Type 0 where
  pub entries : List Entry
  pub told : Told
  pub stop : Option Stop

-- how many entries pieces have
abbrev pub entries_said : List SaidPiece → ℕ
entries_said [] = 0
entries_said (s ∷ said) = length s.entries + entries_said said

-- a piece that was put: its entries, and the files that are sure of it
pub record PutPiece : Type 0 where
  pub entries : List Entry
  pub files : List FileBytes

abbrev pub put_of : SaidPiece → PutPiece
put_of s = record { entries = s.entries; files = s.told.files }

-- the pieces that were put, and the entries and the files of the one under way that were
pub record PutPieces : Type 0 where
  pub pieces : List PutPiece
  pub entries : List Entry
  pub files : List FileBytes

-- the same, and these entries and files of the piece under way
abbrev pub with_more : List Entry → List FileBytes → PutPieces → PutPieces
with_more es files s = record { pieces = s.pieces; entries = s.entries ++ es; files = s.files ++ files }

-- the same, where the piece under way has ended
abbrev pub ended : PutPieces → PutPieces
ended s = record { pieces = s.pieces ++ (record { entries = s.entries; files = s.files }) ∷ []; entries = []; files = [] }

-- what is known has become this
abbrev pub Becomes : Option PutPieces → Option PutPieces → (PutPieces → PutPieces) → Type 0
Becomes None new change = ⊤
Becomes (Some old) None change = ⊥
Becomes (Some old) (Some new) change = new ≡ change old

-- these pieces were put, and these entries and files of the one under way; before, there was nothing of one under way
abbrev pub HasPut : Option PutPieces → Option PutPieces → List SaidPiece → List Entry → List FileBytes → Type 0
HasPut None new said es files = ⊤
HasPut (Some old) None said es files = ⊥
HasPut (Some old) (Some new) said es files = new ≡ record { pieces = old.pieces ++ map put_of said; entries = es; files = files }

-- nothing was put of a piece under way
abbrev pub IsBetweenPieces : Option PutPieces → Type 0
IsBetweenPieces None = ⊤
IsBetweenPieces (Some s) = (s.entries ≡ []) × (s.files ≡ [])
