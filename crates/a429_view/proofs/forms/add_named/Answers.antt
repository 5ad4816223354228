use Rattle.a429_view.proofs.LineFacts.{◌▹◌}
use Rattle.a429_view.proofs.forms.add_named.Goals as goal

pub returns : goal.returns
returns c = c.put.ensures ▹ c.put_byte.ensures
