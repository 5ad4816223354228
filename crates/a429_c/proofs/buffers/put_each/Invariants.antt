use Rattle.std.proofs.Common.{◌≡◌, length, take}
use Rattle.a429_c.specs.Buffers.{sizes_of}
use Rattle.a429_c.proofs.buffers.put_each.Given as goal

abbrev pub invariant-loop-i : goal.invariant-loop-i
invariant-loop-i l = record {
  room : length l.buffer ≡ length l.initial.buffer;
  sizes : take l.i l.buffer ≡ sizes_of (take l.i l.files);
}
