use Rattle.a429_view.proofs.trace.Trace.refuse.Goals as goal

pub returns-clause-line : goal.returns-clause-line
returns-clause-line g c = rw (c.form.ensures, c.next-next.ensures) at c.put_refused.ensures
