use Rattle.std.proofs.Common.{arith}
use Rattle.a429_view.proofs.units.size.byte_count.Goals as goal

pub block_bytes-requires : goal.block_bytes-requires
block_bytes-requires c = rw c.words.ensures (omega (arith, c.count-words.ensures.value, c.count-words.type_inv))
