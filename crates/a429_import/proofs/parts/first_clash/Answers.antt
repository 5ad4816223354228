use Rattle.std.proofs.Common.{◌≡◌, suc, ◌+◌, ◌-◌, ◌∙◌, sym, arith}
use Rattle.a429_import.specs.Parts.{is_in_part}
use Rattle.a429_import.proofs.PartsFacts.{first_bit-next}
use Rattle.a429_import.proofs.parts.first_clash.Goals as goal

pub loop-bit-preserved : goal.loop-bit-preserved
loop-bit-preserved c =
    let end = c.args.part.now.bits.low + c.args.part.now.bits.count in
    let bit = c.loop-bit.bit in
    let more : end - bit ≡ suc (end - (bit + 1)) = omega arith in
    sym (first_bit-next (is_in_part c.args.earlier.now) bit (end - bit) (end - (bit + 1)) more
    (sym c.is_in_part.ensures ∙ c.if-is_in_part.false))
    ∙ c.loop-bit.invariant
