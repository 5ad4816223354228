use Rattle.std.proofs.Common.{◌≡◌, [], take, drop}
use Rattle.a429_profile.specs.Clash.{label_clash_after}
use Rattle.a429_profile.proofs.clash.label_clash.Given as goal

abbrev pub invariant-loop-i : goal.invariant-loop-i
invariant-loop-i l = label_clash_after l.codes (take l.i l.entries) (drop l.i l.entries) ≡ label_clash_after l.codes [] l.entries
