use Rattle.a429_sink.proofs.SplittingFacts.{replays}
use Rattle.a429_sink.proofs.splitting.Splitting.begin_anew.Goals as goal

pub returns-in-Ok-see_again-clause-ok : goal.returns-in-Ok-see_again-clause-ok
returns-in-Ok-see_again-clause-ok g c = λ at_end first es is there.
    let before = g.P.Pieces.known c.args.pieces.now in
    let now = g.P.Pieces.known c.end_piece.new.pieces in
    c.in-Ok-see_again.ensures at_end first now es
    (replays c.args.profile.now at_end first before now es c.args.self.now c.end_piece.new.self c.args.mark is there c.in-Ok.ensures.ok)
