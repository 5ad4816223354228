use Rattle.a429_word.proofs.SheetFacts.{◌▹◌}
use Rattle.a429_view.proofs.ShowFacts.{AreShowLines-next}
use Rattle.a429_view.proofs.show.put_piece.Goals as goal

pub loop-i-preserved : goal.loop-i-preserved
loop-i-preserved g c =
    let so_far = c.loop-i.invariant in
    let line = c.put_entry.ensures in (
      _,
      AreShowLines-next c.args.profile.now c.args.piece.now c.loop-i.i c.index-piece-i.result so_far.0 line.0 c.loop-i-test.true
          c.index-piece-i.is so_far.1 line.1,
      so_far.2 ▹ line.2,
    )
