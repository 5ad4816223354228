use Rattle.std.proofs.Common.{refl}
use Rattle.a429_ldu.proofs.SightFacts.{sees_of}
use Rattle.a429_ldu.proofs.sight.form.Goals as goal

pub returns : goal.returns
returns c =
    let s =
    sees_of c.args.profile.now c.seen.ensures.sound c.args.bus c.args.word c.args.profile.now.codes c.seen.result refl
    c.seen.ensures.sight in
    record { free = s.free; found = s.found; only = s.only; computed = s.computed }
