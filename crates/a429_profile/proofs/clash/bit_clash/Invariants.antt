use Rattle.std.proofs.Common.{◌≡◌, drop}
use Rattle.a429_profile.specs.Clash.{bit_clash}
use Rattle.a429_profile.proofs.clash.bit_clash.Given as goal

abbrev pub invariant-loop-entry : goal.invariant-loop-entry
invariant-loop-entry l = bit_clash (drop l.entry-index l.entries) ≡ bit_clash l.entries
