use Rattle.std.proofs.Common.{◌≡◌, ◌++◌, take}
use Rattle.a429_profile.specs.Clash.{all_at_key}
use Rattle.a429_profile.proofs.clash.named.Given as goal

abbrev pub invariant-loop-number : goal.invariant-loop-number
invariant-loop-number l = l.named.items ≡ l.used ++ all_at_key l.key (take l.number-index l.numbers)
