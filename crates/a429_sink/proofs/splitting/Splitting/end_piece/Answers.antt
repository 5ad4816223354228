use Rattle.std.proofs.Common.{ap, refl, ◌∙◌}
use Rattle.a429_sink.specs.declared.summary.PieceEnd.{PieceEnd}
use Rattle.a429_sink.specs.declared.piece.PieceTrace.{PieceTrace}
use Rattle.a429_sink.specs.FileUnits.{left_at}
use Rattle.a429_sink.specs.Piece.{stop_at}
use Rattle.a429_sink.proofs.SplittingFacts.{piece_ends}
use Rattle.a429_sink.proofs.splitting.Splitting.end_piece.Goals as goal

pub returns-clause-ok : goal.returns-clause-ok
returns-clause-ok g c =
    let codes = c.args.profile.now.codes in
    let m = c.args.mark in
    let e : PieceEnd =
    record { entries = m.place; begun_before = m.begun_before; stop = c.stop_at-stop.result; units = c.in-Ok-into_open_units.units } in
    let same = c.replace-piece.ensures.value ∙ c.in-Ok.ensures.same in
    piece_ends codes m (g.P.Pieces.known c.args.pieces.now) (g.P.Pieces.known c.put_until.new.pieces) (g.P.Pieces.known c.end-2.new.self)
    c.args.self.now c.put_until.new.self _ e c.in-Ok.ensures.ok c.in-Ok-end-2.ensures.ok c.in-Ok-end.ensures refl refl
    (c.stop_at-stop.ensures ∙ ap (λ (t : PieceTrace). stop_at m.place t.trace.stop) same)
    (c.in-Ok-into_open_units.ensures ∙ ap (λ (t : PieceTrace). left_at codes m.units t.trace.trace.units) same)
    (λ p. rw c.replace-piece.ensures.after (c.new.ensures.piece p)) refl c.clear.ensures.items refl
