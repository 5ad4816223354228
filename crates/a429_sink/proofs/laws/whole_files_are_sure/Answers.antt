use Rattle.a429_sink.proofs.HistoryFacts.{whole_are_sure}
use Rattle.a429_sink.proofs.laws.whole_files_are_sure.Goals as goal

pub returns : goal.returns
returns c = whole_are_sure
