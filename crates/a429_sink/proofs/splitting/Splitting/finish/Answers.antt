use Rattle.std.proofs.Common.{◌≡◌, ◌∙◌, None, true, inr, refl, sym}
use Rattle.a429_sink.specs.Piece.{end_at_last}
use Rattle.a429_sink.specs.Splitting.{IsSplit}
use Rattle.a429_sink.proofs.SplittingFacts.{at_the_end, has_all, no_end}
use Rattle.a429_sink.proofs.splitting.Splitting.finish.Goals as goal
use Rattle.a429_sink.proofs.splitting.Splitting.finish.Goals.{in-Some+in-Ok, in_default}

pub returns-in-Ok-end_piece-clause-ok : goal.returns-in-Ok-end_piece-clause-ok
returns-in-Ok-end_piece-clause-ok g c = λ first es splits.
    let p = c.args.profile.now in
    let s = c.match-end_at_last.splitting in
    let is = at_the_end p first (g.P.Pieces.known c.args.pieces.now) es c.args.self splits.is in
    let both : IsSplit p true first (g.P.Pieces.known c.match-end_at_last.pieces) es s × (end_at_last s.piece ≡ None) =
    elim c.match-end_at_last.branch [
      | in-Some+in-Ok w ↦
          let h = w.in-Ok.ensures.ok true first es is (inr (refl, sym c.end_at_last.ensures ∙ w.in-Some.is)) in
          rw (w.splitting-is, w.pieces-is) (h.is, no_end w.begin_anew.new.self.piece h.goes)
      | in_default w ↦ rw (w.splitting-is, w.pieces-is) (is, sym c.end_at_last.ensures ∙ w.in_default.is)
    ] in
    has_all p first (g.P.Pieces.known c.match-end_at_last.pieces) (g.P.Pieces.known c.end_piece.new.pieces) es s c.end_piece.new.self both.0
    both.1 (rw c.mark-all.ensures at c.in-Ok-end_piece.ensures.ok) c.into_told.result.items c.into_told.ensures
