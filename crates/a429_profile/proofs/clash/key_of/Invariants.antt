use Rattle.std.proofs.Common.{◌≡◌, drop}
use Rattle.a429_profile.specs.Clash.{key_of}
use Rattle.a429_profile.proofs.clash.key_of.Given as goal

abbrev pub invariant-loop-key : goal.invariant-loop-key
invariant-loop-key l = key_of l.number (drop l.key-index l.named) ≡ key_of l.number l.named
