use Rattle.std.proofs.Common.{◌∷◌, [], ap, arith, length, length-append, refl}
use Rattle.a429_parts.proofs.PartsFacts.{holds_more}
use Rattle.a429_parts.proofs.parting.Parting.take.Goals as goal

pub returns-in-Ok-clause-ok : goal.returns-in-Ok-clause-ok
returns-in-Ok-clause-ok c most parts es h current =
    holds_more c.args.profile.now most parts es c.args.entry.now c.args.self.now _ h c.in-Ok.ensures.waits c.take.ensures.most.0 refl refl
    c.in-Ok.ensures.cuts c.in-Ok.ensures.reach (λ parted. c.in-Ok.ensures.in_time parted) current

pub returns-in-Ok-clause-waits : goal.returns-in-Ok-clause-waits
returns-in-Ok-clause-waits c =
    omega (arith, ap length c.in-Ok.ensures.waits, length-append c.args.self.now.cutter.waiting (c.args.entry.now ∷ []))
