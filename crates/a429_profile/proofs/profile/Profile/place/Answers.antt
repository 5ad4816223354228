use Rattle.std.proofs.Common.{◌≡◌, ◌+◌, ◌*◌, ◌∙◌, ap, ℕ, get_or, arith}
use Rattle.a429_profile.specs.Profile.{entries_of}
use Rattle.a429_profile.proofs.PlacesFacts.{place_at}
use Rattle.a429_profile.proofs.ProfileLookup.{ApartAfter-IsProfile}
use Rattle.a429_profile.proofs.profile.Profile.place.Goals as goal

pub place_of-requires-clause-apart : goal.place_of-requires-clause-apart
place_of-requires-clause-apart c = ApartAfter-IsProfile _ c.self.invariant.1

pub returns-then-sdi_place-lt-SDIS : goal.returns-then-sdi_place-lt-SDIS
returns-then-sdi_place-lt-SDIS c =
    let places = c.self.inside.places.items in
    let same : 4 * c.from.result + c.from-sdi_place.result ≡ 4 * c.args.label + c.args.sdi =
    omega (arith, c.from.ensures, c.from-sdi_place.ensures) in
    let here = c.index.ensures ∙ ap (λ (k : ℕ). get_or places k c.index.result.now) same in
    rw (← c.self.view_is)
    (place_at (entries_of c.self.inside.labels.entries) places c.args.label c.args.sdi c.index.result.now c.self.invariant.2
    (omega (arith, c.ranges.label.fits)) (omega (arith, c.if-sdi_place-lt-SDIS.true, c.from-sdi_place.ensures)) here)
