use Rattle.std.proofs.Common.{◌≡◌, ◌/◌, ◌^◌}
use Rattle.a429_word.proofs.BcdPacked.{IsPacked}
use Rattle.a429_word.proofs.bcd.packed_digits.Given as goal

abbrev pub invariant-loop-place : goal.invariant-loop-place
invariant-loop-place l = (l.rest ≡ l.value / 10 ^ l.place) × IsPacked l.packed l.place l.value
