use Rattle.std.proofs.Common.{◌≡◌}
use Rattle.a429_merge.specs.FreeBits.{with_bits}
use Rattle.a429_merge.proofs.AffineFacts.{changes}
use Rattle.a429_ldu.specs.CheckWord.{check_of}
use Rattle.a429_merge.proofs.free_bits.bits_for_check_word.Given as goal

abbrev pub invariant-loop-k : goal.invariant-loop-k
invariant-loop-k l = l.columns.items ≡ changes (λ m. check_of l.rule (with_bits m l.bytes)) 0 l.k
