use Rattle.std.proofs.Common.{refl}
use Rattle.a429_view.proofs.survey.Survey.new.Goals as goal

pub returns : goal.returns
returns c = λ codes. record { entries = refl; times = tt; a = c.new.ensures codes; b = c.new-2.ensures codes }
