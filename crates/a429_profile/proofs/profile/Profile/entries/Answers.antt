use Rattle.std.proofs.Common.{ap, option_map}
use Rattle.std.proofs.lemmas.Option.{slice_get-map}
use Rattle.a429_profile.specs.Profile.{Kept}
use Rattle.a429_profile.proofs.profile.Profile.entries.Goals as goal

pub returns-in-Some : goal.returns-in-Some
returns-in-Some c =
    rw (← c.self.view_is, slice_get-map (λ (e : Kept). e.1) c.self.inside.labels.entries c.args.i)
    (ap (option_map (λ (e : Kept). e.1)) c.in-Some.ensures.entry)

pub returns-in-None : goal.returns-in-None
returns-in-None c =
    rw (← c.self.view_is, slice_get-map (λ (e : Kept). e.1) c.self.inside.labels.entries c.args.i)
    (ap (option_map (λ (e : Kept). e.1)) c.in-None.ensures.entry)
