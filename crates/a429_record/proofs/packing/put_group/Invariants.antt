use Rattle.std.proofs.Common.{◌≡◌, ◌*◌, length, take}
use Rattle.std.specs.List.{flat_map}
use Rattle.a429_record.specs.Binary.{entry_piece}
use Rattle.a429_record.proofs.packing.put_group.Given as goal

abbrev pub invariant-loop-entry : goal.invariant-loop-entry
invariant-loop-entry g l = record {
  size : length l.bytes ≡ 53248;
  place : l.at ≡ 13 * l.entry-index;
  text : take l.at l.bytes ≡ flat_map entry_piece (take l.entry-index l.group);
}
