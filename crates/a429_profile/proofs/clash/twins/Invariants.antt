use Rattle.std.proofs.Common.{◌≡◌, [], take, drop}
use Rattle.a429_profile.specs.Clash.{twins_after}
use Rattle.a429_profile.proofs.clash.twins.Given as goal

abbrev pub invariant-loop-i : goal.invariant-loop-i
invariant-loop-i l = twins_after (take l.i l.named) (drop l.i l.named) ≡ twins_after [] l.named
