use Rattle.a429_view.proofs.sink.put_sink.Goals as goal

pub returns-in-Yes : goal.returns-in-Yes
returns-in-Yes g c = rw c.in-Yes.is (rw c.as_slice.ensures.value at c.put_yes.ensures)
