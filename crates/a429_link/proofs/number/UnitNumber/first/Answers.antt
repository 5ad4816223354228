use Rattle.std.proofs.Common.{ap, arith}
use Rattle.a429_profile.specs.declared.codes.Codes.{Codes}
use Rattle.a429_profile.proofs.ProfileRanges.{in_range}
use Rattle.a429_link.proofs.number.UnitNumber.first.Goals as goal

pub returns-clause-low : goal.returns-clause-low
returns-clause-low c = omega (
  arith,
  (in_range c.args.profile.now c.codes.ensures.sound).first_ldu,
  ap (λ (k : Codes). k.first_ldu) c.codes.ensures.codes,
  c.from.ensures,
)
