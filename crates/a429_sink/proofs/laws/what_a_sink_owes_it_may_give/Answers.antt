use Rattle.a429_sink.proofs.OwedFacts.{listed_owed, may_owed}
use Rattle.a429_sink.proofs.laws.what_a_sink_owes_it_may_give.Goals as goal

pub returns-clause-gives : goal.returns-clause-gives
returns-clause-gives c = λ k x. may_owed k.count k.phase x

pub returns-clause-listed : goal.returns-clause-listed
returns-clause-listed c = listed_owed
