use Rattle.std.proofs.Common.{arith}
use Rattle.a429_view.proofs.LineFacts.{within}
use Rattle.a429_view.proofs.forms.add_likely_form.Goals as goal

pub returns-in-Part : goal.returns-in-Part
returns-in-Part c = rw c.in-Part.is (within 30 c.add_semis.ensures (omega arith))
