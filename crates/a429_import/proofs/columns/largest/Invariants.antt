use Rattle.std.proofs.Common.{◌≡◌, drop, max}
use Rattle.a429_import.specs.Columns.{largest}
use Rattle.a429_import.proofs.columns.largest.Given as goal

abbrev pub invariant-loop-place : goal.invariant-loop-place
invariant-loop-place l = max l.most (largest (drop l.place-index l.places)) ≡ largest l.places
