use Rattle.a429_profile.specs.Profile.{entries_of}
use Rattle.a429_profile.specs.Places.{ArePlacesUpTo}
use Rattle.a429_profile.proofs.places.places_of.Given as goal

abbrev pub invariant-loop-pair : goal.invariant-loop-pair
invariant-loop-pair l = ArePlacesUpTo l.pair (entries_of l.labels.entries) l.places.items
