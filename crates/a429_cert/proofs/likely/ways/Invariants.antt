use Rattle.std.proofs.Common.{◌≡◌}
use Rattle.a429_cert.specs.Likely.{values_below, ways_fields}
use Rattle.a429_cert.proofs.likely.ways.Given as goal

abbrev pub invariant-words : goal.invariant-words
invariant-words l = l.texts.items ≡ values_below (ways_fields l.to_sink) l.k
