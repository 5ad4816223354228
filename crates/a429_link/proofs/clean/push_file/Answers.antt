use Rattle.std.proofs.Common.{ap, arith}
use Rattle.a429_link.specs.declared.number.UnitNumber.{UnitNumber}
use Rattle.a429_link.proofs.clean.push_file.Goals as goal

pub push_unit-requires : goal.push_unit-requires
push_unit-requires c =
    let first = ap (λ (n : UnitNumber). n.ldu) c.first-number.ensures.number in
    omega (arith, first, c.first-number.ensures.low, c.loop-unit.invariant.low, c.loop-unit-test.true, c.requires)
