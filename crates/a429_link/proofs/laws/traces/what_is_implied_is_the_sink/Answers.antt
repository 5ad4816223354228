use Rattle.a429_link.proofs.ImpliedFacts.{file_crosses, files_stay_without, implied_sink}
use Rattle.a429_link.proofs.laws.traces.what_is_implied_is_the_sink.Goals as goal

pub returns-clause-sink : goal.returns-clause-sink
returns-clause-sink c = implied_sink

pub returns-clause-crosses : goal.returns-clause-crosses
returns-clause-crosses c = file_crosses

pub returns-clause-stays : goal.returns-clause-stays
returns-clause-stays c = files_stay_without
