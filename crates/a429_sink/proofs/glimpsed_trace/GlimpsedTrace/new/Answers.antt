use Rattle.std.proofs.Common.{refl}
use Rattle.a429_sink.proofs.GlimpsedTraceFacts.{nothing_refused}
use Rattle.a429_sink.proofs.glimpsed_trace.GlimpsedTrace.new.Goals as goal

pub returns : goal.returns
returns c = λ p. record {
  allowed = nothing_refused p;
  glimpse = c.new.ensures.glimpse;
  known = c.new.ensures.known;
  units = c.new-2.ensures p.codes;
  begun = λ e. refl;
}
