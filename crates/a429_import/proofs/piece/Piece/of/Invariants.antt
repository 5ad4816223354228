-- what is left has the piece that is wanted, counted from there
use Rattle.std.proofs.Common.{◌≡◌, ◌≤◌, ◌-◌, length, slice_get}
use Rattle.a429_import.specs.Piece.{pieces}
use Rattle.a429_import.proofs.piece.Piece.of.Given as goal

abbrev pub invariant-pieces : goal.invariant-pieces
invariant-pieces l = record {
  piece : slice_get (pieces l.self.at l.field) (l.self.number - 1) ≡ slice_get (pieces l.self.at l.rest) (l.self.number - l._before);
  within : length l.rest ≤ length l.field;
}
