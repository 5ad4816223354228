use Rattle.a429_link.proofs.TraceKinds.{listed_where_allowed}
use Rattle.a429_link.proofs.TraceWords.{listed_where_word}
use Rattle.a429_link.proofs.laws.traces.listed_is_what_is_allowed.Goals as goal

pub returns-clause-form : goal.returns-clause-form
returns-clause-form c = listed_where_allowed

pub returns-clause-word : goal.returns-clause-word
returns-clause-word c = λ p items k is. listed_where_word p is items k
