use Rattle.a429_view.proofs.verdict.put_size.Goals as goal

pub returns : goal.returns
returns g c = rw c.from.ensures at c.put_file.ensures
