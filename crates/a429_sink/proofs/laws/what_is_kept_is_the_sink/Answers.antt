use Rattle.a429_sink.proofs.LoneRuns.{all_crosses, kept_allows, kept_sink}
use Rattle.a429_sink.proofs.laws.what_is_kept_is_the_sink.Goals as goal

pub returns-clause-sink : goal.returns-clause-sink
returns-clause-sink c = kept_sink

pub returns-clause-allows : goal.returns-clause-allows
returns-clause-allows c = kept_allows

pub returns-clause-crosses : goal.returns-clause-crosses
returns-clause-crosses c = all_crosses
