use Rattle.a429_word.proofs.ScreeningLanes.{answers_fit}
use Rattle.a429_word.proofs.screening.answers_at.Goals as goal

pub overflow_cast-result : goal.overflow_cast-result
overflow_cast-result c = rw c.answers.ensures (answers_fit _ c.args.label)
