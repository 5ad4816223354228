use Rattle.std.proofs.Common.{◌≡◌, ◌+◌, ◌-◌, ◌∙◌, ap, sym, arith, length-drop, slice_get}
use Rattle.std.proofs.lemmas.List.{take_rest}
use Rattle.a429_import.specs.Piece.{pieces}
use Rattle.a429_import.proofs.PieceFacts.{alone, first, none_after, one_on}
use Rattle.a429_import.proofs.piece.Piece.of.Goals as goal

pub returns-in_err-end : goal.returns-in_err-end
returns-in_err-end c =
    rw c.from_residual.ensures
    (sym (c.pieces.invariant.piece ∙ none_after c.args.self.at c.pieces.rest.now _ c.in_err-end.ensures.first (omega arith)))

pub pieces-preserved : goal.pieces-preserved
pieces-preserved c =
    let rest = c.pieces.rest.now in
    let end = c.in_ok-end.end in
    record {
      piece = c.pieces.invariant.piece
          ∙ one_on c.args.self.at rest end c.pieces._before c.args.self.number c.in_ok-end.ensures.first (omega arith);
      within = rw take_rest (omega (arith, length-drop (end + 1) rest, c.pieces.invariant.within));
    }

pub returns-in-Some : goal.returns-in-Some
returns-in-Some c =
    let none : c.args.self.number - c.pieces._before ≡ 0 = omega arith in
    first c.args.self.at c.pieces.rest.now c.in-Some.end c.in-Some.ensures.first
    ∙ ap (slice_get (pieces c.args.self.at c.pieces.rest.now)) (sym none) ∙ sym c.pieces.invariant.piece

pub returns-in-None : goal.returns-in-None
returns-in-None c =
    let none : c.args.self.number - c.pieces._before ≡ 0 = omega arith in
    alone c.args.self.at c.pieces.rest.now c.in-None.ensures.first ∙ ap (slice_get (pieces c.args.self.at c.pieces.rest.now)) (sym none)
    ∙ sym c.pieces.invariant.piece
