use Rattle.std.proofs.Common.{arith}
use Rattle.a429_import.proofs.PlacesFacts.{said_more}
use Rattle.a429_import.proofs.places.put_places.Goals as goal

pub loop-place-preserved : goal.loop-place-preserved
loop-place-preserved g c = said_more c.args.places.now c.loop-place.place-index _ (omega arith) c.loop-place.invariant c.put_place.ensures
