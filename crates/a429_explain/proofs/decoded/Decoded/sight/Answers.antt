use Rattle.std.proofs.Common.{◌≡◌, subst}
use Rattle.a429_ldu.specs.Sight.{sight_of}
use Rattle.a429_explain.specs.Decoded.{HeardValue}
use Rattle.a429_explain.proofs.decoded.Decoded.sight.Goals as goal

pub returns : goal.returns
returns c =
    let seen = c.seen-bus.result in
    rw c.seen-bus.ensures
    (subst (λ (h : HeardValue). c.form.result ≡ sight_of h.profile.codes seen.bus seen.word) c.self.view_is c.form.ensures.computed)
