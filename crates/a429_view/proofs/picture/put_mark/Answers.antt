use Rattle.a429_view.proofs.picture.put_mark.Goals as goal

pub returns-in-Seen : goal.returns-in-Seen
returns-in-Seen g c = rw c.in-Seen.is c.put_recorded.ensures
