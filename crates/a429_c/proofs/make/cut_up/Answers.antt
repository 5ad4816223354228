use Rattle.std.proofs.Common.{refl}
use Rattle.a429_c.proofs.MakeFacts.{cut-more}
use Rattle.a429_c.proofs.make.cut_up.Goals as goal

pub loop-i-preserved : goal.loop-i-preserved
loop-i-preserved c =
    let inv = c.loop-i.invariant in
    let cut = c.in_ok-rest.ensures in
    let more =
    cut-more _ _ c.loop-i.rest.now _ c.args.bytes.now c.args.lengths.now c.loop-i.i _ _ c.loop-i-test.true refl cut.room cut.file cut.rest
    inv.joined inv.long in
    record { joined = more.joined; long = more.long }
