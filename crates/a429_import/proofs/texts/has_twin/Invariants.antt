use Rattle.std.proofs.Common.{◌≡◌, drop}
use Rattle.a429_import.specs.Texts.{has_twin}
use Rattle.a429_import.proofs.texts.has_twin.Given as goal

abbrev pub invariant-loop-i : goal.invariant-loop-i
invariant-loop-i l = has_twin (drop l.i l.texts) ≡ has_twin l.texts
