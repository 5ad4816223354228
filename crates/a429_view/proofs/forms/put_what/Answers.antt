use Rattle.std.proofs.Common.{rules}
use Rattle.a429_view.proofs.forms.put_what.Goals as goal

pub returns-in-Some : goal.returns-in-Some
returns-in-Some g c = search rules
