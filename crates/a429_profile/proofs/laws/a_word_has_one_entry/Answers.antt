use Rattle.a429_profile.proofs.ProfileOneEntry.{one_entry}
use Rattle.a429_profile.proofs.laws.a_word_has_one_entry.Goals as goal

pub returns : goal.returns
returns c = one_entry
