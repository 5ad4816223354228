-- What memory keeps of pieces (profile).
use Rattle.a429_sink.specs.declared.pieces.Piece.{Piece}
use Rattle.a429_sink.specs.Pieces.{PutPiece}

-- a piece in memory
abbrev pub piece_in : Piece → PutPiece
piece_in piece = record { entries = piece.entries.items; files = piece.files.items }
