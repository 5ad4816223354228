use Rattle.std.proofs.Common.{refl}
use Rattle.a429_view.proofs.survey.counts.BusCount.hits.Goals as goal

pub returns : goal.returns
returns c = rw c.place.ensures.place refl
