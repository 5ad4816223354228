use Rattle.a429_word.proofs.SheetFacts.{◌▹◌}
use Rattle.a429_view.proofs.PictureFacts.{rows-more}
use Rattle.a429_view.proofs.picture.put_rows.Goals as goal

pub loop-i-preserved : goal.loop-i-preserved
loop-i-preserved g c =
    rw (rows-more c.args.profile.now.codes c.args.rows.now c.loop-i.i c.index-rows-i.result c.loop-i-test.true c.index-rows-i.is)
    (c.loop-i.invariant ▹ c.put_row.ensures)
