use Rattle.std.proofs.Common.{◌≡◌, ◌+◌, ◌-◌}
use Rattle.a429_import.specs.Parts.{first_bit, is_in_part}
use Rattle.a429_import.proofs.parts.first_clash.Given as goal

abbrev pub invariant-loop-bit : goal.invariant-loop-bit
invariant-loop-bit l =
    first_bit (is_in_part l.earlier) l.bit (l.part.bits.low + l.part.bits.count - l.bit)
    ≡ first_bit (is_in_part l.earlier) l.part.bits.low l.part.bits.count
