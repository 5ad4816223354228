use Rattle.std.proofs.Common.{◌≡◌}
use Rattle.a429_cert.specs.Likely.{values_below, pair_text}
use Rattle.a429_cert.proofs.likely.WordLines.new.Given as goal

abbrev pub invariant-words : goal.invariant-words
invariant-words l = l.pairs.items ≡ values_below pair_text l.k
