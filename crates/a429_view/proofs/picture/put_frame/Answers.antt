use Rattle.a429_word.proofs.SheetFacts.{◌▹◌}
use Rattle.a429_view.proofs.picture.put_frame.Goals as goal

pub returns : goal.returns
returns g c = c.put.ensures ▹ c.put_number.ensures ▹ c.put-2.ensures ▹ c.put_number-2.ensures ▹ c.put-3.ensures ▹ c.put_number-3.ensures
    ▹ c.put-4.ensures
