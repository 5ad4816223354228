use Rattle.std.proofs.Common.{rules}
use Rattle.a429_profile.proofs.entry.Numbers.as_slice.Goals as goal

pub returns : goal.returns
returns c = search rules
