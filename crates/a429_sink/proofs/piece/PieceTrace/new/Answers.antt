use Rattle.a429_sink.proofs.PieceFacts.{piece_at_first}
use Rattle.a429_sink.proofs.piece.PieceTrace.new.Goals as goal

pub returns-clause-piece : goal.returns-clause-piece
returns-clause-piece c = λ p. piece_at_first p _ (c.new.ensures p) c.new-2.ensures
