use Rattle.a429_commands.proofs.engines.check.put_verdict.Goals as goal

pub returns-in-Impossible : goal.returns-in-Impossible
returns-in-Impossible g c = rw c.in-Impossible.is c.put_impossible.ensures

pub returns-in-Unexplained : goal.returns-in-Unexplained
returns-in-Unexplained g c = rw c.in-Unexplained.is c.put_unexplained.ensures
