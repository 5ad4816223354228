use Rattle.a429_side.proofs.SideFacts.{lined-same, lined-turned, sided-view}
use Rattle.a429_side.proofs.laws.what_is_written_is_the_view.Goals as goal

pub returns : goal.returns
returns c = record { view = sided-view; on_a = lined-same; on_b = lined-turned }
