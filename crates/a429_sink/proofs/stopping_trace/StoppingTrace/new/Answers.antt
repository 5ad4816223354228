use Rattle.std.proofs.Common.{refl}
use Rattle.a429_sink.proofs.GlimpsedTraceFacts.{nothing_refused}
use Rattle.a429_sink.proofs.stopping_trace.StoppingTrace.new.Goals as goal

pub returns : goal.returns
returns c = λ p. record { size = refl; trace = c.new.ensures p; stops = nothing_refused p; word = tt; files = refl }
