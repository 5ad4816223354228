use Rattle.std.proofs.Common.{◌≤◌, sym, subst, arith}
use Rattle.a429_profile.specs.declared.codes.Codes.{Codes}
use Rattle.a429_link.proofs.number.is_final.Goals as goal

pub overflow_sub-result : goal.overflow_sub-result
overflow_sub-result c =
    subst (λ (k : Codes). 25 ≤ k.final_bit) (sym c.codes-codes.ensures.codes)
    (c.each_number_lies_in_its_range.ensures _ c.codes-codes.ensures.sound).final_low

pub overflow_shr-result : goal.overflow_shr-result
overflow_shr-result c =
    let high =
    subst (λ (k : Codes). k.final_bit ≤ 28) (sym c.codes-codes.ensures.codes)
    (c.each_number_lies_in_its_range.ensures _ c.codes-codes.ensures.sound).final_high in
    omega arith
