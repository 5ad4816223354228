use Rattle.a429_link.proofs.CleanOffers.{clean_is_run}
use Rattle.a429_link.proofs.laws.a_clean_recording_is_a_run.Goals as goal

pub returns : goal.returns
returns c = λ p r. clean_is_run p r.first r.units r.items r.sound r.byte r.fit r.words
