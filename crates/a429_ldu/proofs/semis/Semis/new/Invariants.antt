use Rattle.std.proofs.Common.{◌≡◌, ◌<◌, ◌++◌, ◌-◌, take, replicate}
use Rattle.std.specs.List.{AllByRecursion}
use Rattle.a429_ldu.proofs.semis.Semis.new.Given as goal

abbrev pub invariant-loop-i : goal.invariant-loop-i
invariant-loop-i l = record {
  digits : l.digits ≡ take l.i l.semi_octets ++ replicate (5 - l.i) 0;
  small : AllByRecursion (λ d. d < 16) (take l.i l.semi_octets);
}
