use Rattle.a429_view.proofs.CrossingsFacts.{crossings_delivered, crossings_explained}
use Rattle.a429_view.proofs.laws.what_crosses_is_delivered.Goals as goal

pub returns : goal.returns
returns c = record { run = crossings_delivered; yes = crossings_explained }
