use Rattle.std.proofs.Common.{refl}
use Rattle.a429_sink.proofs.SplittingFacts.{split_first}
use Rattle.a429_sink.proofs.splitting.Splitting.new.Goals as goal

pub returns : goal.returns
returns c =
    λ p known between. split_first p known _ between
    (c.new.ensures.piece p) c.new.ensures.goes_on refl c.new-2.ensures.items c.new-3.ensures.items c.new-4.ensures
