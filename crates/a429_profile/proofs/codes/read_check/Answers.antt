use Rattle.std.proofs.Common.{rules}
use Rattle.a429_profile.proofs.codes.read_check.Goals as goal

pub returns : goal.returns
returns c = search rules
