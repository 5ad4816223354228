use Rattle.std.proofs.Common.{arith}
use Rattle.a429_word.proofs.ScreeningLanes.{stored-lanes}
use Rattle.a429_word.proofs.screening.screen_vectors.Goals as goal

pub loop-at-preserved : goal.loop-at-preserved
loop-at-preserved c = (
  omega arith,
  stored-lanes c.args.label c.loop-at.at c.args.words.now c.loop-at.out c.answers_at.result (omega arith)
      (omega arith) c.loop-at.invariant.1 c.answers_at.ensures,
)
