use Rattle.a429_side.proofs.BothSidesFacts.{both_explained}
use Rattle.a429_side.proofs.laws.certificates_of_both_directions.Goals as goal

pub returns : goal.returns
returns c = λ p q entries files others m f s. both_explained p q entries files others m f s
