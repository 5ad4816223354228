use Rattle.std.proofs.Common.{ap, arith}
use Rattle.a429_profile.specs.declared.codes.Codes.{Codes}
use Rattle.a429_profile.proofs.ProfileRanges.{in_range}
use Rattle.a429_link.proofs.transfer.Transfer.load.Goals as goal

pub load-requires : goal.load-requires
load-requires c =
    let low = (in_range c.args.profile.now c.codes.ensures.sound).first_ldu in
    omega (arith, ap (λ (k : Codes). k.first_ldu) c.codes.ensures.codes, (c.may_load.ensures.0 c.if-not-may_load.false).2)
