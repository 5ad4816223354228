use Rattle.std.proofs.Common.{refl}
use Rattle.std.proofs.Math.Bool.{and-true, and-false}
use Rattle.a429_profile.proofs.PlacesFacts.{open_place, stated_place}
use Rattle.a429_profile.proofs.places.place_of.Goals as goal

pub returns-in-Some : goal.returns-in-Some
returns-in-Some c =
    open_place c.args.label c.args.sdi _ (λ l. and-true _) (λ l s. and-false _) c.args.labels.now.entries c.requires.keyed c.requires.apart
    c.in-Some.place c.in-Some.ensures.found c.in-Some.ensures.value

pub returns-in-None : goal.returns-in-None
returns-in-None c =
    stated_place c.args.label c.args.sdi _ _
    record { open_none = λ l. and-true _; open_some = λ l s. and-false _; stated_none = λ l. and-false _; stated_some = λ l s. refl }
    c.args.labels.now.entries c.requires.keyed c.requires.apart c.get_index_of-in-None.result c.in-None.ensures.found
    c.get_index_of-in-None.ensures.found c.get_index_of-in-None.ensures.value
