use Rattle.std.proofs.Common.{◌≡◌, [], take, drop}
use Rattle.a429_profile.specs.Clash.{bit_after}
use Rattle.a429_profile.proofs.clash.bit_twin.Given as goal

abbrev pub invariant-loop-i : goal.invariant-loop-i
invariant-loop-i l = bit_after l.label (take l.i l.flags) (drop l.i l.flags) ≡ bit_after l.label [] l.flags
