use Rattle.a429_import.proofs.CountsFacts.{most_lift-more}
use Rattle.a429_import.proofs.counts.with_lift.Goals as goal

pub returns : goal.returns
returns c = λ lots lot lift most. most_lift-more lots lot c.args.most c.args.lift c.max.result lift most c.max.ensures
