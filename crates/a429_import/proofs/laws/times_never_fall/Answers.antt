use Rattle.a429_import.proofs.LawFacts.{never_falls}
use Rattle.a429_import.proofs.laws.times_never_fall.Goals as goal

pub returns : goal.returns
returns c = never_falls
