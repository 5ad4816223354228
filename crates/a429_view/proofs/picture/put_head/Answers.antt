use Rattle.a429_word.proofs.SheetFacts.{◌▹◌}
use Rattle.a429_view.proofs.picture.put_head.Goals as goal

pub returns : goal.returns
returns g c = c.put_size.ensures ▹ c.put_style.ensures ▹ c.put_frame.ensures ▹ c.put_names.ensures
