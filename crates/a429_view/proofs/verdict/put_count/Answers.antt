use Rattle.a429_view.proofs.verdict.put_count.Goals as goal

pub returns : goal.returns
returns g c = c.put_reason.ensures
