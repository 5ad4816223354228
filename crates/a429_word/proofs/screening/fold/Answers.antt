use Rattle.a429_word.proofs.ScreeningLanes.{folded-lanes}
use Rattle.a429_word.proofs.screening.fold.Goals as goal

pub returns : goal.returns
returns c = folded-lanes c.args.numbers c.args.by c.requires.lanes
