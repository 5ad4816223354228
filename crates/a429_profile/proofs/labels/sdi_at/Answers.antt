use Rattle.std.proofs.Common.{rules}
use Rattle.a429_profile.proofs.labels.sdi_at.Goals as goal

pub returns-in-None : goal.returns-in-None
returns-in-None c = search rules
