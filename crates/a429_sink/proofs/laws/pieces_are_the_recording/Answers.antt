use Rattle.a429_sink.proofs.HistoryFacts.{pieces_join}
use Rattle.a429_sink.proofs.laws.pieces_are_the_recording.Goals as goal

pub returns : goal.returns
returns c = λ p items pieces. pieces_join p pieces items
