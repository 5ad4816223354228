use Rattle.std.proofs.Common.{sym}
use Rattle.a429_word.proofs.SheetFacts.{◌▹◌}
use Rattle.a429_view.proofs.HistoryFacts.{history_more}
use Rattle.a429_view.proofs.history.put_pieces.Goals as goal

pub loop-place-preserved : goal.loop-place-preserved
loop-place-preserved g c =
    let t = c.index-told-place.result in
    rw (history_more c.args.profile.now.codes c.args.told.now c.loop-place.place t c.loop-place-test.true (sym c.index-told-place.is))
    (c.loop-place.invariant ▹ c.put_piece.ensures)
