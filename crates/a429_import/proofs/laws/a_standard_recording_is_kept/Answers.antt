use Rattle.a429_import.proofs.StandardFacts.{standard_kept}
use Rattle.a429_import.proofs.laws.a_standard_recording_is_kept.Goals as goal

pub returns : goal.returns
returns c = standard_kept
