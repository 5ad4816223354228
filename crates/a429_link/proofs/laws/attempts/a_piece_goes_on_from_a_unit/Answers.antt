use Rattle.a429_link.proofs.MessageRead.{is_read}
use Rattle.a429_link.proofs.PieceAssigned.{piece_assigned}
use Rattle.a429_link.proofs.PieceRun.{piece_run}
use Rattle.a429_link.proofs.laws.attempts.a_piece_goes_on_from_a_unit.Goals as goal

pub returns : goal.returns
returns c = λ p items is begins. (piece_assigned p is (is_read p is) items begins, piece_run p is (is_read p is) items begins)
