use Rattle.std.proofs.Common.{◌≡◌, subst}
use Rattle.a429_link.specs.Sink.{Sink, without_files}
use Rattle.a429_sink.specs.Lone.{capped}
use Rattle.a429_sink.proofs.LoneFacts.{counted_stays}
use Rattle.a429_sink.proofs.lone.LoneSink.rests.Goals as goal

pub returns : goal.returns
returns c =
    subst (λ (k : Sink). without_files (capped k) ≡ k) c.self.view_is
    (counted_stays c.self.inside.implied c.self.invariant.1 c.self.invariant.2)
