use Rattle.std.proofs.Common.{arith}
use Rattle.a429_word.proofs.FixedText.{zero-dropped}
use Rattle.a429_word.proofs.fixed.shortened.Goals as goal

pub loop-left-preserved : goal.loop-left-preserved
loop-left-preserved c =
    let l = c.loop-left in
    (omega arith, zero-dropped c.args.number l.rest c.args.decimals l.left l.invariant.1 (omega arith) (omega arith) (omega arith))
