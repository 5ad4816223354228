use Rattle.std.proofs.Common.{◌≡◌, ◌++◌, ◌*◌, ◌-◌, ◌≤◌, length}
use Rattle.a429_ldu.specs.Cut.{pieces, units_in}
use Rattle.a429_ldu.proofs.CutFacts.{rest_of}
use Rattle.a429_ldu.proofs.cutting.units.Given as goal

abbrev pub invariant-loop-rest : goal.invariant-loop-rest
invariant-loop-rest l = record {
  units : l.units.items ++ rest_of l.profile l.room (length l.units.items) l.rest ≡ units_in l.profile (pieces 255 l.room l.bytes);
  some : 1 ≤ length l.rest;
  most : length l.rest ≤ (255 - length l.units.items) * l.room;
}

abbrev pub decreases-loop-rest : goal.decreases-loop-rest
decreases-loop-rest l = length l.rest
