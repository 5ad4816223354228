use Rattle.a429_record.proofs.LargerLimits.{larger}
use Rattle.a429_record.proofs.laws.larger_limits.Goals as goal

pub returns : goal.returns
returns c = larger
