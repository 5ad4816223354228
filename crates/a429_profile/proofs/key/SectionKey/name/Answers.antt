use Rattle.std.proofs.Common.{rules}
use Rattle.a429_profile.proofs.key.SectionKey.name.Goals as goal

pub returns-in-FirstLdu : goal.returns-in-FirstLdu
returns-in-FirstLdu c = search rules
