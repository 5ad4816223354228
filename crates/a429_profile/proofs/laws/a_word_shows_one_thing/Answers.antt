use Rattle.a429_profile.proofs.ShownOnce.{one_shown}
use Rattle.a429_profile.proofs.laws.a_word_shows_one_thing.Goals as goal

pub returns : goal.returns
returns c = one_shown
