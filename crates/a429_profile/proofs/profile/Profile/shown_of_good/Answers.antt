use Rattle.std.proofs.Common.{rules}
use Rattle.a429_profile.proofs.profile.Profile.shown_of_good.Goals as goal

pub returns-in_default-clause-shown : goal.returns-in_default-clause-shown
returns-in_default-clause-shown c = search rules

pub returns-in-NoValue-clause-shown : goal.returns-in-NoValue-clause-shown
returns-in-NoValue-clause-shown c = search rules

pub returns-after-matches : goal.returns-after-matches
returns-after-matches c = search rules
