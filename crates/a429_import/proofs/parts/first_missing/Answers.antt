use Rattle.std.proofs.Common.{◌≡◌, suc, ◌+◌, ◌-◌, ◌∙◌, ap, not, sym, arith}
use Rattle.a429_import.specs.Parts.{is_in_part}
use Rattle.a429_import.proofs.PartsFacts.{first_bit-next}
use Rattle.a429_import.proofs.parts.first_missing.Goals as goal

pub loop-bit-preserved : goal.loop-bit-preserved
loop-bit-preserved c =
    let end = c.args.most + 1 in
    let bit = c.loop-bit.bit in
    let more : end - bit ≡ suc (end - (bit + 1)) = omega arith in
    sym (first_bit-next (λ n. not (is_in_part c.args.parts.now n)) bit (end - bit) (end - (bit + 1)) more
    (ap not (sym c.is_in_part.ensures ∙ c.if-not-is_in_part.false)))
    ∙ c.loop-bit.invariant
