use Rattle.std.proofs.Common.{rules}
use Rattle.a429_profile.proofs.entry.Flags.into_vec.Goals as goal

pub returns : goal.returns
returns c = search rules
