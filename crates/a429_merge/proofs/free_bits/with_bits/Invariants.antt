use Rattle.std.proofs.Common.{◌≡◌, ◌++◌, drop}
use Rattle.a429_merge.specs.FreeBits.{with_bits}
use Rattle.a429_merge.proofs.free_bits.with_bits.Given as goal

abbrev pub invariant-loop-byte : goal.invariant-loop-byte
invariant-loop-byte l = l.changed.items ++ with_bits l.rest (drop l.byte-index l.bytes) ≡ with_bits l.fn.bits l.bytes
