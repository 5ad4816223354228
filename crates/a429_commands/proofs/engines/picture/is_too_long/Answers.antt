use Rattle.a429_commands.proofs.PictureFacts.{few_steps}
use Rattle.a429_commands.proofs.engines.picture.is_too_long.Goals as goal

pub returns-in-Ok-clause-yes : goal.returns-in-Ok-clause-yes
returns-in-Ok-clause-yes c = λ long. rw c.in-Ok.is (c.is_too_long.ensures.0 long)

pub returns-in-Ok-clause-no : goal.returns-in-Ok-clause-no
returns-in-Ok-clause-no c = λ short. λ x is. few_steps c.is_too_long.result c.args.sketch.now.steps c.is_too_long.ensures short

pub returns-in-Err-clause-no : goal.returns-in-Err-clause-no
returns-in-Err-clause-no c = λ short. λ x is. absurd (cc (is, c.in-Err.is))
