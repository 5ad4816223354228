use Rattle.std.proofs.Common.{◌≡◌}
use Rattle.a429_cert.specs.Likely.{values_below, sending_field}
use Rattle.a429_cert.proofs.likely.sources.Given as goal

abbrev pub invariant-words : goal.invariant-words
invariant-words l = l.texts.items ≡ values_below sending_field l.k
